-- Laws of tests: the first check that stops a day, and tests of each job.
use mathlib.Core.Bool.{Bool, true, false, true≢false}
use mathlib.Core.List.{List, [], ◌∷◌, map}
use mathlib.Core.Logic.{◌≢◌}
use mathlib.Core.Path.{◌≡◌, refl, sym, subst}
use Prim.Native.Nat.{ℕ, zero, suc, ◌+◌, ◌*◌, ◌≤◌, ◌<◌}
use native.Mathlib.Omega.{arith}
use Rattle.file_sections.specs.Checks.{every}
use Rattle.day_file.specs.Checks.{check}
use Rattle.day_file.specs.Sections.{job_from, jobs_from}
use Rattle.day_file.specs.declared.Job.{Job}

-- ── the checks in their order ──

-- where the number is 0 the first passes, and those behind it come to 0 too
pub none_stops : (n : ℕ) (b : Bool) (behind : ℕ) → check (suc n) b behind ≡ 0 → (b ≡ true) × (behind ≡ 0)
none_stops n true behind e = (refl, e)
none_stops n false behind e = absurd (omega arith)

pub check_most : (m n : ℕ) (b : Bool) (behind : ℕ) → n ≤ m → behind ≤ m → check n b behind ≤ m
check_most m n true behind own others = others
check_most m n false behind own others = own

-- and are not m where none of them has that number
pub check_not : (m n : ℕ) (t : Bool) (behind : ℕ) → n ≢ m → behind ≢ m → check n t behind ≢ m
check_not m n true behind h k = k
check_not m n false behind h k = h

-- ── each job of a list ──

abbrev pub AllJobs : (Job → Type 0) → List Job → Type 0
AllJobs P [] = Unit {0}
AllJobs P (j ∷ js) = P j × AllJobs P js

pub all_hold : (f : Job → Bool) (js : List Job) → every (map f js) ≡ true → AllJobs (λ j. f j ≡ true) js
unfolding every
all_hold f [] e = tt
all_hold f (j ∷ js) e = by (f j) refl e (all_hold f js) where
  by : (b : Bool) → f j ≡ b → every (b ∷ map f js) ≡ true → (every (map f js) ≡ true → AllJobs (λ k. f k ≡ true) js) → (f j ≡ true) × AllJobs (λ k. f k ≡ true) js
  by true t d rest = (t, rest d)
  by false t d rest = absurd (true≢false (sym d))

pub all_map : {P Q : Job → Type 0} → ((j : Job) → P j → Q j) → (js : List Job) → AllJobs P js → AllJobs Q js
all_map g [] ps = tt
all_map g (j ∷ js) ps = (g j ps.0, all_map g js ps.1)

-- job k of n jobs from byte i on
pub each_job : (P : Job → Type 0) (bs : List ℕ) (n i k : ℕ) → k < n → AllJobs P (jobs_from bs n i) → P (job_from bs (i + 12 * k))
unfolding jobs_from
each_job P bs zero i k small ps = absurd (omega arith)
each_job P bs (suc n) i zero small ps = let e : i ≡ i + 12 * 0 = omega arith in subst (λ (a : ℕ). P (job_from bs a)) e ps.0
each_job P bs (suc n) i (suc k) small ps =
    let e : i + 12 + 12 * k ≡ i + 12 * suc k = omega arith in
    subst (λ (a : ℕ). P (job_from bs a)) e (each_job P bs n (i + 12) k (omega arith) ps.1)
