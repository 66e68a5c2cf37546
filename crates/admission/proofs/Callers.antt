-- Another caller's jobs change nothing: what a caller's jobs are answered is a matter of its own jobs and of what it has at
-- first, whatever other jobs stand before, between and behind them.
use mathlib.Core.Bool.{Bool, true, false}
use mathlib.Core.List.{List, [], ◌∷◌, ◌++◌, map}
use mathlib.Core.Path.{◌≡◌, refl, sym, ap, ap₂, ◌∙◌}
use Prim.Native.Nat.{ℕ}
use lib.Dec.{eqb}
use borrow.Author.Tests.{eqb-true, ne_eqb}
use Rattle.day_file.specs.declared.Job.{Job}
use Rattle.day_file.specs.Sections.{day_header, jobs_of_day}
use Rattle.admission.specs.Admission.{fits, rest, allowed, left_after, admitted, day_admitted}
use Rattle.admission.specs.Callers.{own, answers}
use Rattle.admission.proofs.After.{others_rest, own_rest}

-- the answers to jobs of one caller that declare these steps
unfoldable pub alone : ℕ → List ℕ → List Bool
alone left [] = []
alone left (s ∷ ss) = fits left s ∷ alone (rest left s) ss

abbrev declared : List Job → List ℕ
declared js = map (λ (j : Job). j.steps) js

-- ── a caller by itself ──

module _ (c : ℕ) where
  module _ (left : ℕ → ℕ) (j : Job) (js : List Job) where
    -- a job of the caller's own, before answers to the others of its own
    own_first : eqb j.caller c ≡ true → {ys : List Bool} → ys ≡ alone (left_after left j c) (declared (own c js))
        → fits (left j.caller) j.steps ∷ ys ≡ alone (left c) (declared (j ∷ own c js))
    unfolding alone
    own_first e behind =
        ap₂ ◌∷◌ (ap (λ (k : ℕ). fits (left k) j.steps) (eqb-true j.caller c e)) (behind ∙ ap (λ (l : ℕ). alone l (declared (own c js))) (own_rest left j c e))

    one_more : answers c js (admitted (left_after left j) js) ≡ alone (left_after left j c) (declared (own c js))
        → (b : Bool) → eqb j.caller c ≡ b → answers c (j ∷ js) (admitted left (j ∷ js)) ≡ alone (left c) (declared (own c (j ∷ js)))
    unfolding answers own admitted
    one_more behind true e = rw e (own_first e behind)
    one_more behind false e = rw e (behind ∙ ap (λ (l : ℕ). alone l (declared (own c js))) (others_rest left j c e))

    one_own : admitted (left_after left j) (own c js) ≡ alone (left_after left j c) (declared (own c js)) → admitted left (own c js) ≡ alone (left c) (declared (own c js))
        → (b : Bool) → eqb j.caller c ≡ b → admitted left (own c (j ∷ js)) ≡ alone (left c) (declared (own c (j ∷ js)))
    unfolding own admitted
    one_own behind here true e = rw e (own_first e behind)
    one_own behind here false e = rw e here

  -- the answers to its jobs are those that it gets by itself
  pub by_itself : (left : ℕ → ℕ) (js : List Job) → answers c js (admitted left js) ≡ alone (left c) (declared (own c js))
  unfolding answers own alone
  by_itself left [] = refl
  by_itself left (j ∷ js) = one_more left j js (by_itself (left_after left j) js) (eqb j.caller c) refl

  own_by_itself : (left : ℕ → ℕ) (js : List Job) → admitted left (own c js) ≡ alone (left c) (declared (own c js))
  unfolding own admitted alone
  own_by_itself left [] = refl
  own_by_itself left (j ∷ js) = one_own left j js (own_by_itself (left_after left j) js) (own_by_itself left js) (eqb j.caller c) refl

  -- **The answers to a caller's jobs are those of the list with all other callers' jobs taken out.**
  pub others_change_nothing : (left : ℕ → ℕ) (js : List Job) → answers c js (admitted left js) ≡ admitted left (own c js)
  others_change_nothing left js = by_itself left js ∙ sym (own_by_itself left js)

  -- so with the same jobs of the caller, in their order, the answers to them are the same; of these jobs the declared steps
  -- alone matter, and of what callers have at first what this one has
  module _ (left left' : ℕ → ℕ) (same : left c ≡ left' c) (js js' : List Job) where
    pub same_steps : declared (own c js) ≡ declared (own c js') → answers c js (admitted left js) ≡ answers c js' (admitted left' js')
    same_steps e = by_itself left js ∙ ap₂ alone same e ∙ sym (by_itself left' js')

    pub same_jobs : own c js ≡ own c js' → answers c js (admitted left js) ≡ answers c js' (admitted left' js')
    same_jobs e = same_steps (ap declared e)

-- ── another caller's job, put anywhere ──

own_before : (c : ℕ) (before js js' : List Job) → own c js ≡ own c js' → own c (before ++ js) ≡ own c (before ++ js')
unfolding own
own_before c [] js js' e = e
own_before c (j ∷ before) js js' e = rw (own_before c before js js' e)

own_without : (c : ℕ) (k : Job) (js : List Job) → (k.caller ≡ c → ⊥) → own c (k ∷ js) ≡ own c js
unfolding own
own_without c k js other = rw (ne_eqb k.caller c other)

pub extra_job : (c limit : ℕ) (before : List Job) (k : Job) (behind : List Job) → (k.caller ≡ c → ⊥)
    → answers c (before ++ k ∷ behind) (admitted (allowed limit) (before ++ k ∷ behind)) ≡ answers c (before ++ behind) (admitted (allowed limit) (before ++ behind))
extra_job c limit before k behind other =
    same_jobs c (allowed limit) (allowed limit) refl (before ++ k ∷ behind) (before ++ behind) (own_before c before (k ∷ behind) behind (own_without c k behind other))

-- ── of day files ──

-- the answers to caller c's jobs of a day
abbrev pub day_answers : ℕ → List ℕ → List Bool
day_answers c bs = answers c (jobs_of_day bs) (day_admitted bs)

module _ (bs bs' : List ℕ) (one_limit : (day_header bs).steps ≡ (day_header bs').steps) where
  -- **Two days with one limit and the same jobs of a caller, in the same order, admit the same of them**, whatever other jobs
  -- stand anywhere between. It holds of days that load, and of any other bytes too.
  pub other_callers : (c : ℕ) → own c (jobs_of_day bs) ≡ own c (jobs_of_day bs') → day_answers c bs ≡ day_answers c bs'
  unfolding day_admitted
  other_callers c e = same_jobs c (allowed (day_header bs).steps) (allowed (day_header bs').steps) (ap (λ (l : ℕ). allowed l c) one_limit) (jobs_of_day bs) (jobs_of_day bs') e

  -- admission is a matter of the job section and the header's limit: no record and no byte of the code has a part in it
  pub by_jobs : jobs_of_day bs ≡ jobs_of_day bs' → day_admitted bs ≡ day_admitted bs'
  unfolding day_admitted
  by_jobs e = ap₂ (λ (limit : ℕ) (js : List Job). admitted (allowed limit) js) one_limit e
