-- Admission as the request's own sentence has it, with no allowance that is taken down: what a caller has left is the limit
-- less a sum over the jobs before. That these are the same answers, and the only ones, is proved (proofs/Sentence).
use Rattle.std.specs.Prelude.{Bool, false, cond, not, List, [], ◌∷◌, ◌++◌, ◌≡◌, ℕ, ◌+◌, ◌-◌, ltb, eqb, length, get_or}
use Rattle.day_file.specs.declared.Job.{Job}

-- the declared steps of caller c's jobs that are admitted, of these jobs and the answers to them
unfoldable pub charged : ℕ → List Job → List Bool → ℕ
charged c [] ys = 0
charged c (j ∷ js) [] = 0
charged c (j ∷ js) (y ∷ ys) = cond (eqb j.caller c) (cond y j.steps 0) 0 + charged c js ys

-- "A job is skipped if and only if its declared steps exceed the limit less those of the same caller's earlier admitted
-- jobs": the answers to some jobs, `limit` being that of each caller.
pub record BySentence (limit : ℕ → ℕ) (js : List Job) (answers : List Bool) : Type 0 where
  pub count : length answers ≡ length js
  pub each : (before : List Job) (j : Job) (behind : List Job) → js ≡ before ++ j ∷ behind
      → get_or answers (length before) false ≡ not (ltb (limit j.caller - charged j.caller before answers) j.steps)
