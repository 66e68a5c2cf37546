-- The jobs, one after the other: what the jobs from the i-th on say of all.
use mathlib.Core.Bool.{Bool, true, false, and-true, and-false}
use mathlib.Core.List.{List, map}
use mathlib.Core.Path.{◌≡◌, ap, ap₂, ◌∙◌}
use Prim.Native.Nat.{ℕ, suc, ◌+◌, ◌-◌, ◌*◌, ◌≤◌, ◌<◌}
use native.Mathlib.Omega.{arith}
use lib.Dec.{leb}
use borrow.Author.Tests.{le-leb, lt-leb}
use Rattle.labels.specs.declared.Label.{Label}
use Rattle.file_sections.specs.Checks.{every}
use Rattle.day_file.specs.Checks.{job_ok, jobs_ok}
use Rattle.day_file.specs.declared.Header.{Header}
use Rattle.day_file.specs.Sections.{job_from, jobs_from}
use Rattle.day_file.specs.declared.Job.{Job}

module _ (test : Job → Bool) (bs : List ℕ) where
  -- each of n jobs from byte `at` on passes the test
  abbrev pub all_pass : ℕ → ℕ → Bool
  all_pass n at = every (map test (jobs_from bs n at))

  job_stops : (n at : ℕ) → test (job_from bs at) ≡ false → all_pass (suc n) at ≡ false
  unfolding every jobs_from
  job_stops n at e = rw e

  next_job : (n at : ℕ) → test (job_from bs at) ≡ true → all_pass (suc n) at ≡ all_pass n (at + 12)
  unfolding every jobs_from
  next_job n at e = rw e

-- the jobs from the i-th on decide
pub record Left (test : Job → Bool) (bs : List ℕ) (n at i : ℕ) : Type 0 where
  pub decide : all_pass test bs n at ≡ all_pass test bs (n - i) (at + 12 * i)

pub all_left : (test : Job → Bool) (bs : List ℕ) (n at : ℕ) → Left test bs n at 0
all_left test bs n at =
    let e : n ≡ n - 0 = omega arith in
    let f : at ≡ at + 12 * 0 = omega arith in
    record { decide = ap₂ (all_pass test bs) e f }

module _ {test : Job → Bool} {bs : List ℕ} {n at i : ℕ} (l : Left test bs n at i) where
  here : i < n → all_pass test bs n at ≡ all_pass test bs (suc (n - (i + 1))) (at + 12 * i)
  here h = let e : n - i ≡ suc (n - (i + 1)) = omega arith in l.decide ∙ ap (λ (k : ℕ). all_pass test bs k (at + 12 * i)) e

  pub one_stops : i < n → test (job_from bs (at + 12 * i)) ≡ false → all_pass test bs n at ≡ false
  one_stops h e = here h ∙ job_stops test bs (n - (i + 1)) (at + 12 * i) e

  pub one_less : i < n → test (job_from bs (at + 12 * i)) ≡ true → Left test bs n at (i + 1)
  one_less h e =
      let f : at + 12 * i + 12 ≡ at + 12 * (i + 1) = omega arith in
      record { decide = here h ∙ next_job test bs (n - (i + 1)) (at + 12 * i) e ∙ ap (all_pass test bs (n - (i + 1))) f }

  pub none_left : n ≤ i → all_pass test bs n at ≡ true
  unfolding every jobs_from
  none_left h = let e : n - i ≡ 0 = omega arith in l.decide ∙ ap (λ (k : ℕ). all_pass test bs k (at + 12 * i)) e

-- ── check 10 ──

module _ (h : Header) (ls : ℕ → Label) (js : List Job) where
  pub too_few : h.jobs.count < 1 → jobs_ok h ls js ≡ false
  unfolding jobs_ok every
  too_few few = rw (lt-leb 1 h.jobs.count few)

  pub too_many : 16 < h.jobs.count → jobs_ok h ls js ≡ false
  unfolding jobs_ok every
  too_many many = rw (lt-leb h.jobs.count 16 many, and-false (leb 1 h.jobs.count))

  -- with 1 to 16 jobs they decide
  pub few_enough : 1 ≤ h.jobs.count → h.jobs.count ≤ 16 → jobs_ok h ls js ≡ every (map (job_ok h ls) js)
  unfolding jobs_ok every
  few_enough some few = rw (le-leb 1 h.jobs.count some, le-leb h.jobs.count 16 few) (and-true (every (map (job_ok h ls) js)))
