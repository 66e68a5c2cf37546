-- The jobs of a day one by one: their turns, and the jobs by their number.
use mathlib.Core.Bool.{true, false}
use mathlib.Core.List.{List, [], ◌∷◌}
use mathlib.Core.Path.{◌≡◌, ap, ◌∙◌}
use Prim.Native.Nat.{ℕ, suc, ◌+◌, ◌-◌, ◌*◌, ◌≤◌, ◌<◌}
use native.Mathlib.Omega.{arith}
use Rattle.model.specs.State.{Store}
use Rattle.day_file.specs.declared.Job.{Job}
use Rattle.day_file.specs.Sections.{job_from, jobs_from}
use Rattle.admission.specs.Admission.{fits, left_after, admitted}
use Rattle.day_jobs.specs.Running.{Turn, skipped, ran, job_run, store_after, turns, turns_over}

-- ── the turns ──

-- the turns of some jobs where each caller has so many steps left
abbrev pub turns_from : List ℕ → List Job → (ℕ → ℕ) → Store → List Turn
turns_from bs js left σ = turns bs js (admitted left js) σ

module _ (bs : List ℕ) (j : Job) (js : List Job) (left : ℕ → ℕ) (σ : Store) where
  pub turn_skipped : fits (left j.caller) j.steps ≡ false → turns_from bs (j ∷ js) left σ ≡ skipped ∷ turns_from bs js (left_after left j) σ
  unfolding admitted turns_over
  turn_skipped e = rw e

  pub turn_ran : fits (left j.caller) j.steps ≡ true → turns_from bs (j ∷ js) left σ ≡ ran j.steps (job_run bs j σ) ∷ turns_from bs js (left_after left j) (store_after bs j σ)
  unfolding admitted turns_over
  turn_ran e = rw e

-- ── jobs by their number ──

module _ (bs : List ℕ) (at n : ℕ) where
  -- the jobs from job k on, of n whose bytes start at `at`
  abbrev pub jobs_left : ℕ → List Job
  jobs_left k = jobs_from bs (n - k) (at + 12 * k)

  abbrev pub job : ℕ → Job
  job k = job_from bs (at + 12 * k)

  pub all_left : jobs_left 0 ≡ jobs_from bs n at
  all_left = let e : n - 0 ≡ n = omega arith in let f : at + 12 * 0 ≡ at = omega arith in rw (e, f)

  pub next_job : (k : ℕ) → k < n → jobs_left k ≡ job k ∷ jobs_left (k + 1)
  unfolding jobs_from
  next_job k h =
      ap (λ (m : ℕ). jobs_from bs m (at + 12 * k)) (let e : n - k ≡ suc (n - (k + 1)) = omega arith in e)
      ∙ ap (λ (m : ℕ). job k ∷ jobs_from bs (n - (k + 1)) m) (let e : at + 12 * k + 12 ≡ at + 12 * (k + 1) = omega arith in e)

  pub none_left : (k : ℕ) → n ≤ k → jobs_left k ≡ []
  unfolding jobs_from
  none_left k h = ap (λ (m : ℕ). jobs_from bs m (at + 12 * k)) (let e : n - k ≡ 0 = omega arith in e)
