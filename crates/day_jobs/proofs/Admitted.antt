-- Which jobs are run: those that are admitted, and no other. So whether a caller's job is run or skipped, and what readers are
-- shown of a skipped one, is the same whatever jobs of other callers stand among the caller's own.
use mathlib.Core.Bool.{Bool, true, false}
use mathlib.Core.List.{List, [], ◌∷◌, map}
use mathlib.Core.Path.{◌≡◌, refl, sym, ap, ◌∙◌}
use Prim.Native.Nat.{ℕ}
use native.Mathlib.Nat.{suc_inj}
use native.Mathlib.Omega.{arith}
use lib.ListN.{length}
use Rattle.model.specs.State.{Store}
use Rattle.day_file.specs.declared.Job.{Job}
use Rattle.day_file.specs.Sections.{day_header, jobs_of_day}
use Rattle.admission.specs.Admission.{allowed, day_admitted}
use Rattle.admission.specs.Callers.{own, answers}
use Rattle.admission.proofs.Sentence.{as_many}
use Rattle.admission.proofs.Callers.{other_callers}
use Rattle.day_jobs.specs.Running.{Turn, skipped, ran, turns, turns_over, day_turns, day_turns_over}

unfoldable pub was_run : Turn → Bool
was_run skipped = false
was_run (ran s o) = true

turns_run : (bs : List ℕ) (js : List Job) (ys : List Bool) (σ : Store) → length ys ≡ length js → map was_run (turns bs js ys σ) ≡ ys
unfolding turns_over was_run
turns_run bs [] [] σ e = refl
turns_run bs [] (y ∷ ys) σ e = absurd (omega arith)
turns_run bs (j ∷ js) [] σ e = absurd (omega arith)
turns_run bs (j ∷ js) (true ∷ ys) σ e = ap (λ (zs : List Bool). true ∷ zs) (turns_run bs js ys _ (suc_inj e))
turns_run bs (j ∷ js) (false ∷ ys) σ e = ap (λ (zs : List Bool). false ∷ zs) (turns_run bs js ys σ (suc_inj e))

pub run_if_admitted : (bs : List ℕ) → map was_run (day_turns bs) ≡ day_admitted bs
unfolding day_turns_over day_admitted
run_if_admitted bs = turns_run bs (jobs_of_day bs) (day_admitted bs) _ (as_many (allowed (day_header bs).steps) (jobs_of_day bs))

-- of caller c's jobs of a day, whether each is run
abbrev pub runs_of : ℕ → List ℕ → List Bool
runs_of c bs = answers c (jobs_of_day bs) (map was_run (day_turns bs))

pub same_runs : (bs cs : List ℕ) (c : ℕ) → (day_header bs).steps ≡ (day_header cs).steps → own c (jobs_of_day bs) ≡ own c (jobs_of_day cs) → runs_of c bs ≡ runs_of c cs
same_runs bs cs c limit jobs =
    ap (answers c (jobs_of_day bs)) (run_if_admitted bs) ∙ other_callers bs cs limit c jobs ∙ sym (ap (answers c (jobs_of_day cs)) (run_if_admitted cs))
