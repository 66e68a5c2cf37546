-- The loop over the jobs of a day: what is made of the turns from job k on.
use mathlib.Core.Bool.{true, false}
use mathlib.Core.List.{List, [], ◌++◌}
use mathlib.Core.Path.{◌≡◌, refl, sym, ap, ◌∙◌}
use Prim.Native.Nat.{ℕ, ◌+◌, ◌*◌, ◌≤◌, ◌<◌}
use native.Mathlib.Omega.{arith}
use lib.ListN.{length, length-append}
use borrow.Author.Tests.{le-leb}
use Rattle.model.specs.State.{Store}
use Rattle.view_fields.specs.Writing.{over}
use Rattle.view_fields.proofs.Buffers.{Writing, start, more, ends}
use Rattle.day_file.specs.declared.Job.{Job}
use Rattle.day_file.specs.Sections.{jobs_from}
use Rattle.admission.specs.Admission.{fits, left_after}
use Rattle.day_jobs.specs.Running.{Turn, skipped, ran, job_run, store_after, turns_over}
use Rattle.day_jobs.proofs.Turns.{turns_from, turn_skipped, turn_ran, jobs_left, job, all_left, next_job, none_left}
use Rattle.day.specs.Views.{each_turn}
use Rattle.day.specs.Parts.{shown_at, most_bytes}

-- ── how long the views can get ──

module _ (bs : List ℕ) (at n : ℕ) where
  -- the most bytes that the views from job k on can have
  pub most_here : (k : ℕ) → k < n → most_bytes (jobs_left bs at n k) ≡ 206 + 132 * (job bs at n k).places + most_bytes (jobs_left bs at n (k + 1))
  unfolding most_bytes
  most_here k h = ap most_bytes (next_job bs at n k h)

  pub most_nothing : (k : ℕ) → n ≤ k → most_bytes (jobs_left bs at n k) ≡ 0
  unfolding most_bytes
  most_nothing k h = ap most_bytes (none_left bs at n k h)

-- ── a buffer that may be too short ──

-- The buffer was b₀ and is b. Up to i all is written, if the whole fits; `left` is to be written behind it.
pub record Shows (whole left b₀ b : List ℕ) (i : ℕ) : Type 0 where
  pub count : i + length left ≡ length whole
  pub same : length b ≡ length b₀
  pub writing : length whole ≤ length b₀ → Writing whole left b₀ b i

pub shows_none : {whole left b : List ℕ} → left ≡ whole → Shows whole left b b 0
shows_none {left = left} e = record { count = let f : length left ≡ _ = ap length e in omega arith; same = refl; writing = λ _. start e }

module _ {whole left b₀ b : List ℕ} {i : ℕ} (w : Shows whole left b₀ b i) where
  pub shows_more : (xs : List ℕ) {l : List ℕ} → left ≡ xs ++ l → {n : ℕ} → n ≡ length xs → {b' : List ℕ} → b' ≡ shown_at i xs b → length b' ≡ length b
      → Shows whole l b₀ b' (i + n)
  unfolding shown_at
  shows_more xs {l} d {n} e {b'} q s =
      let long = ap length d ∙ length-append xs l in
      record {
        count = omega (arith, w.count, long);
        same = s ∙ w.same;
        writing = λ h.
            let fits : i + length xs ≤ length b = omega (arith, w.count, w.same, long) in
            more (w.writing h) xs l d n (sym e) (omega (arith, w.same)) b' (rw (le-leb (i + length xs) (length b) fits) at q);
      }

  pub shows_all : left ≡ [] → (i ≡ length whole) × (length whole ≤ length b₀ → b ≡ over whole b₀)
  shows_all e = (let f = ap length e in omega (arith, w.count), λ h. ends (w.writing h) e)

-- ── the jobs' turns, one by one ──

module _ (f : Turn → List ℕ) (bs : List ℕ) (at n : ℕ) where
  -- what is made of the turns from job k on
  abbrev pub made : ℕ → (ℕ → ℕ) → Store → List ℕ
  made k left σ = each_turn f (turns_from bs (jobs_left bs at n k) left σ)

  module _ (k : ℕ) (left : ℕ → ℕ) (σ : Store) (h : k < n) where
    abbrev j : Job
    j = job bs at n k

    pub made_skipped : fits (left j.caller) j.steps ≡ false → made k left σ ≡ f skipped ++ made (k + 1) (left_after left j) σ
    unfolding each_turn
    made_skipped e =
        ap (λ (js : List Job). each_turn f (turns_from bs js left σ)) (next_job bs at n k h)
        ∙ ap (each_turn f) (turn_skipped bs j (jobs_left bs at n (k + 1)) left σ e)

    pub made_ran : fits (left j.caller) j.steps ≡ true → made k left σ ≡ f (ran j.steps (job_run bs j σ)) ++ made (k + 1) (left_after left j) (store_after bs j σ)
    unfolding each_turn
    made_ran e =
        ap (λ (js : List Job). each_turn f (turns_from bs js left σ)) (next_job bs at n k h)
        ∙ ap (each_turn f) (turn_ran bs j (jobs_left bs at n (k + 1)) left σ e)

  pub made_nothing : (k : ℕ) (left : ℕ → ℕ) (σ : Store) → n ≤ k → made k left σ ≡ []
  unfolding each_turn turns_over
  made_nothing k left σ h = ap (λ (js : List Job). each_turn f (turns_from bs js left σ)) (none_left bs at n k h)

  pub made_all : (left : ℕ → ℕ) (σ : Store) → made 0 left σ ≡ each_turn f (turns_from bs (jobs_from bs n at) left σ)
  made_all left σ = ap (λ (js : List Job). each_turn f (turns_from bs js left σ)) (all_left bs at n)
