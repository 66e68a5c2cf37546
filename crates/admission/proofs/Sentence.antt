-- "A job is skipped if and only if its declared steps exceed the limit less those of the same caller's earlier admitted jobs":
-- admission as a fold over the jobs answers so, and nothing else does.
use mathlib.Core.Bool.{Bool, true, false, cond, not}
use mathlib.Core.List.{List, [], ◌∷◌, ◌++◌}
use mathlib.Core.Logic.{⊎_elim}
use mathlib.Core.Path.{◌≡◌, refl, sym, ap, ap₂, subst, ◌∙◌}
use Prim.Native.Nat.{ℕ, suc, ◌+◌, ◌-◌, ◌≤◌}
use native.Mathlib.Nat.{suc_inj}
use native.Mathlib.Omega.{arith}
use lib.Dec.{ltb, eqb}
use lib.ListN.{length, get_or}
use borrow.Author.Tests.{le-leb, lt-leb, leb-true, eqb-true}
use Rattle.formulas.proofs.Tests.{lt_or_ge}
use Rattle.day_file.specs.declared.Job.{Job}
use Rattle.day_file.specs.Sections.{day_header, jobs_of_day}
use Rattle.admission.specs.Admission.{fits, rest, allowed, left_after, admitted, day_admitted}
use Rattle.admission.specs.Sentence.{charged, BySentence}
use Rattle.admission.proofs.After.{others_rest, own_rest}

-- a job fits if and only if its steps do not exceed what is left
fits_is : (left steps : ℕ) → fits left steps ≡ not (ltb left steps)
unfolding fits
fits_is left steps =
    ⊎_elim
    (λ h. rw (lt-leb steps left h, le-leb (suc left) steps h))
    (λ h. rw (le-leb steps left h, lt-leb (suc left) steps (omega arith)))
    (lt_or_ge left steps)

-- ── what is left is the limit less a sum ──

less : (l s x : ℕ) (b : Bool) → cond b (l - s) l - x ≡ l - (cond b s 0 + x)
less l s x true = omega arith
less l s x false = omega arith

-- what caller c is charged for job j
abbrev for_job : ℕ → Job → Bool → ℕ
for_job c j y = cond (eqb j.caller c) (cond y j.steps 0) 0

module _ (left : ℕ → ℕ) (j : Job) (c x : ℕ) where
  abbrev fitting : Bool
  fitting = fits (left j.caller) j.steps

  behind_job : (b : Bool) → eqb j.caller c ≡ b → left_after left j c - x ≡ left c - (cond b (cond fitting j.steps 0) 0 + x)
  unfolding rest
  behind_job true e = rw (own_rest left j c e, eqb-true j.caller c e) (less (left c) j.steps x (fits (left c) j.steps))
  behind_job false e = rw (others_rest left j c e) (omega arith)

  after_is : left_after left j c - x ≡ left c - (for_job c j fitting + x)
  after_is = behind_job (eqb j.caller c) refl

-- ── the fold answers by the sentence ──

pub as_many : (left : ℕ → ℕ) (js : List Job) → length (admitted left js) ≡ length js
unfolding admitted
as_many left [] = refl
as_many left (j ∷ js) = ap suc (as_many (left_after left j) js)

answer_at : (left : ℕ → ℕ) (before : List Job) (j : Job) (behind : List Job)
    → get_or (admitted left (before ++ j ∷ behind)) (length before) false ≡ fits (left j.caller - charged j.caller before (admitted left (before ++ j ∷ behind))) j.steps
unfolding admitted charged
answer_at left [] j behind = ap (λ (l : ℕ). fits l j.steps) (let e : left j.caller ≡ left j.caller - 0 = omega arith in e)
answer_at left (k ∷ before) j behind =
    answer_at (left_after left k) before j behind
    ∙ ap (λ (l : ℕ). fits l j.steps) (after_is left k j.caller (charged j.caller before (admitted (left_after left k) (before ++ j ∷ behind))))

pub by_sentence : (left : ℕ → ℕ) (js : List Job) → BySentence left js (admitted left js)
by_sentence left js =
    record {
      count = as_many left js;
      each = λ before j behind e.
          subst (λ (ks : List Job). get_or (admitted left ks) (length before) false ≡ not (ltb (left j.caller - charged j.caller before (admitted left ks)) j.steps)) (sym e)
          (answer_at left before j behind ∙ fits_is _ j.steps);
    }

-- ── so no caller is charged more than its limit, and the sentence's "less" takes away no more than there is ──

no_more_charged : (l s x : ℕ) (t : Bool) → fits l s ≡ t → x ≤ cond t (l - s) l → cond t s 0 + x ≤ l
unfolding fits
no_more_charged l s x true e h = omega (arith, leb-true s l e)
no_more_charged l s x false e h = omega arith

module _ (left : ℕ → ℕ) (j : Job) (c x : ℕ) where
  one_charged : x ≤ left_after left j c → (b : Bool) → eqb j.caller c ≡ b → cond b (cond (fits (left j.caller) j.steps) j.steps 0) 0 + x ≤ left c
  unfolding rest
  one_charged h true e =
      rw (eqb-true j.caller c e) (no_more_charged (left c) j.steps x (fits (left c) j.steps) refl (rw (own_rest left j c e) at h))
  one_charged h false e = omega (arith, h, others_rest left j c e)

pub within_limit : (left : ℕ → ℕ) (js : List Job) (c : ℕ) → charged c js (admitted left js) ≤ left c
unfolding charged admitted
within_limit left [] c = omega arith
within_limit left (j ∷ js) c = one_charged left j c (charged c js (admitted (left_after left j) js)) (within_limit (left_after left j) js c) (eqb j.caller c) refl

-- ── nothing else answers by the sentence ──

module _ {left : ℕ → ℕ} {j : Job} {js : List Job} {y : Bool} {ys : List Bool} (s : BySentence left (j ∷ js) (y ∷ ys)) where
  first_answer : y ≡ fits (left j.caller) j.steps
  unfolding charged
  first_answer = s.each [] j js refl ∙ sym (fits_is _ j.steps) ∙ ap (λ (l : ℕ). fits l j.steps) (let e : left j.caller - 0 ≡ left j.caller = omega arith in e)

  others_answers : BySentence (left_after left j) js ys
  unfolding charged
  others_answers =
      record {
        count = suc_inj s.count;
        each = λ before k behind e.
            s.each (j ∷ before) k behind (ap (λ (ks : List Job). j ∷ ks) e)
            ∙ ap (λ (l : ℕ). not (ltb l k.steps))
            (ap (λ (z : Bool). left k.caller - (for_job k.caller j z + charged k.caller before ys)) first_answer ∙ sym (after_is left j k.caller (charged k.caller before ys)));
      }

pub sentence_only : (left : ℕ → ℕ) (js : List Job) (ys : List Bool) → BySentence left js ys → ys ≡ admitted left js
unfolding admitted
sentence_only left [] [] s = refl
sentence_only left [] (y ∷ ys) s = absurd (omega (arith, s.count))
sentence_only left (j ∷ js) [] s = absurd (omega (arith, s.count))
sentence_only left (j ∷ js) (y ∷ ys) s = ap₂ ◌∷◌ (first_answer s) (sentence_only (left_after left j) js ys (others_answers s))

-- ── of a day ──

pub day_sentence : (bs : List ℕ) (ys : List Bool) → BySentence (allowed (day_header bs).steps) (jobs_of_day bs) ys → ys ≡ day_admitted bs
unfolding day_admitted
day_sentence bs ys s = sentence_only (allowed (day_header bs).steps) (jobs_of_day bs) ys s

pub day_by_sentence : (bs : List ℕ) → BySentence (allowed (day_header bs).steps) (jobs_of_day bs) (day_admitted bs)
unfolding day_admitted
day_by_sentence bs = by_sentence (allowed (day_header bs).steps) (jobs_of_day bs)
