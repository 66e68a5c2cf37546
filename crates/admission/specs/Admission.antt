-- Request T-06: "The header's limit now applies to every caller's own jobs. Each caller's remaining steps are taken down in
-- place as jobs are admitted."
use Rattle.std.specs.Prelude.{Bool, cond, List, [], ◌∷◌, ℕ, ◌-◌, leb, eqb}
use Rattle.day_file.specs.declared.Job.{Job}
use Rattle.day_file.specs.Sections.{day_header, jobs_of_day}

-- ── one caller ──

-- whether a job that declares so many steps is admitted, where its caller has so many left
unfoldable pub fits : ℕ → ℕ → Bool
fits left steps = leb steps left

-- what the caller has left behind that job: the declared steps are taken down, used or not, and a skipped job takes none
unfoldable pub rest : ℕ → ℕ → ℕ
rest left steps = cond (fits left steps) (left - steps) left

-- ── all callers: what each has left, by the caller's number ──

-- at first, each has the header's limit whole
unfoldable pub allowed : ℕ → ℕ → ℕ
allowed limit c = limit

-- behind a job, its caller has the rest, and the others what they had
unfoldable pub left_after : (ℕ → ℕ) → Job → ℕ → ℕ
left_after left j c = cond (eqb j.caller c) (rest (left c) j.steps) (left c)

-- for each job, in order, whether it is admitted
unfoldable pub admitted : (ℕ → ℕ) → List Job → List Bool
admitted left [] = []
admitted left (j ∷ js) = fits (left j.caller) j.steps ∷ admitted (left_after left j) js

unfoldable pub day_admitted : List ℕ → List Bool
day_admitted bs = admitted (allowed (day_header bs).steps) (jobs_of_day bs)
