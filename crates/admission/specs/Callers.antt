-- One caller's jobs among those of a day, and the answers to them.
use Rattle.std.specs.Prelude.{Bool, cond, List, [], ◌∷◌, ℕ, eqb}
use Rattle.day_file.specs.declared.Job.{Job}

-- the jobs of caller c, in their order: all others are taken out
unfoldable pub own : ℕ → List Job → List Job
own c [] = []
own c (j ∷ js) = cond (eqb j.caller c) (j ∷ own c js) (own c js)

-- of the answers to some jobs, those to caller c's
unfoldable pub answers : ℕ → List Job → List Bool → List Bool
answers c [] ys = []
answers c (j ∷ js) [] = []
answers c (j ∷ js) (y ∷ ys) = cond (eqb j.caller c) (y ∷ answers c js ys) (answers c js ys)
