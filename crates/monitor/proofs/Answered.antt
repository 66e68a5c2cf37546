-- What a read comes to, of a plain file or of a day: refused, or viewed.
use mathlib.Core.Bool.{Bool, true, false}
use mathlib.Core.List.{List, ◌++◌}
use mathlib.Core.Logic.{◌⊎◌, inl, inr}
use mathlib.Core.Path.{◌≡◌, refl, sym, subst}
use Prim.Native.Nat.{ℕ, ◌≤◌, ◌<◌}
use native.Mathlib.Omega.{arith}
use borrow.Author.Tests.{lt-ltb, le-ltb, le-leb, eqb-true, eqb-false}
use lib.Dec.{leb, ltb, eqb}
use lib.ListN.{length, drop}
use Rattle.std.specs.Prelude.{Result, Ok, Err}
use Rattle.file_sections.specs.Refusals.{refusal_number, refusal_of}
use Rattle.file_sections.specs.declared.Refusal.{Refusal}
use Rattle.file_sections.specs.declared.Refusal.TheVariants.{Size, Counts, Offsets, Labels, Start, Records, Code, Reader, Room, Jobs, Ahead}
use Rattle.file_sections.proofs.Refusals.{number_of}
use Rattle.view.specs.Layout.{records_at}
use Rattle.view.specs.Reading.{Reading, refuse, answered}
use Rattle.noninterference.specs.Alike.{SameReads, both_refused as reads-refused, both_viewed as reads-viewed}
use Rattle.reading.specs.Answers.{code_of}
use Rattle.monitor.specs.Calls.{told, SameCalls, both_refused, both_viewed}

-- a refusal with one of these numbers, the buffer untouched
pub record IsRefused (Number : ℕ → Type 0) (b : List ℕ) (q : Reading) : Type 0 where
  pub number : ℕ
  pub one_of : Number number
  pub untouched : q ≡ refuse number b

-- the whole view over the buffer's start
abbrev pub viewed : List ℕ → List ℕ → Reading
viewed v b = record { answer = Ok (length v); buffer = v ++ drop (length v) b }

-- what the checks of a kind of file, the reader's index and the buffer's length can give
pub record Numbers (Number : ℕ → Type 0) (r : ℕ) : Type 0 where
  pub checks : 1 ≤ r → Number r
  pub reader : Number 8
  pub buffer : Number 9

module _ (Number : ℕ → Type 0) (r l : ℕ) (v : List ℕ) (i : ℕ) (b : List ℕ) where
  -- Every read is refused or viewed.
  pub refused_or_viewed : Numbers Number r → IsRefused Number b (answered r l v i b) ⊎ ((r ≡ 0) × (answered r l v i b ≡ viewed v b))
  refused_or_viewed n = loads (eqb r 0) refl
    where
      shows : r ≡ 0 → ltb i l ≡ true → (t : Bool) → leb (length v) (length b) ≡ t
          → IsRefused Number b (answered r l v i b) ⊎ ((r ≡ 0) × (answered r l v i b ≡ viewed v b))
      shows z h true e = inr (z, rw (z, h, e))
      shows z h false e = inl (record { number = 9; one_of = n.buffer; untouched = rw (z, h, e) })

      listed : r ≡ 0 → (t : Bool) → ltb i l ≡ t → IsRefused Number b (answered r l v i b) ⊎ ((r ≡ 0) × (answered r l v i b ≡ viewed v b))
      listed z true h = shows z h (leb (length v) (length b)) refl
      listed z false h = inl (record { number = 8; one_of = n.reader; untouched = rw (z, h) })

      loads : (t : Bool) → eqb r 0 ≡ t → IsRefused Number b (answered r l v i b) ⊎ ((r ≡ 0) × (answered r l v i b ≡ viewed v b))
      loads true e = listed (eqb-true r 0 e) (ltb i l) refl
      loads false e = inl (record { number = r; one_of = n.checks (let z = eqb-false r 0 e in omega arith); untouched = rw e })

  pub answered_viewed : r ≡ 0 → i < l → length v ≤ length b → answered r l v i b ≡ viewed v b
  answered_viewed z h le = rw (z, lt-ltb i l h, le-leb (length v) (length b) le)

-- ── one number for the answer ──

-- a refusal has one of the numbers 1 to 11, and is the one with its number
pub number_within : (r : Refusal) → (1 ≤ refusal_number r) × (refusal_number r ≤ 11)
number_within Size = (omega arith, omega arith)
number_within Counts = (omega arith, omega arith)
number_within Offsets = (omega arith, omega arith)
number_within Labels = (omega arith, omega arith)
number_within Start = (omega arith, omega arith)
number_within Records = (omega arith, omega arith)
number_within Code = (omega arith, omega arith)
number_within Reader = (omega arith, omega arith)
number_within Room = (omega arith, omega arith)
number_within Jobs = (omega arith, omega arith)
number_within Ahead = (omega arith, omega arith)

pub numbered : (r : Refusal) → refusal_of (refusal_number r) ≡ r
numbered Size = refl
numbered Counts = refl
numbered Offsets = refl
numbered Labels = refl
numbered Start = refl
numbered Records = refl
numbered Code = refl
numbered Reader = refl
numbered Room = refl
numbered Jobs = refl
numbered Ahead = refl

-- refusals have one of these numbers, views have 206 bytes at least
abbrev pub Bounded : (ℕ → Type 0) → Result ℕ Refusal → Type 0
Bounded Number (Err r) = Number (refusal_number r)
Bounded Number (Ok n) = records_at ≤ n

pub answered_bounded : (Number : ℕ → Type 0) → ((n : ℕ) → Number n → (1 ≤ n) × (n ≤ 11)) → (r l : ℕ) (v : List ℕ) (i : ℕ) (b : List ℕ)
    → Numbers Number r → (r ≡ 0 → records_at ≤ length v) → Bounded Number (answered r l v i b).answer
answered_bounded Number within r l v i b n long = either (refused_or_viewed Number r l v i b n)
  where
    either : IsRefused Number b (answered r l v i b) ⊎ ((r ≡ 0) × (answered r l v i b ≡ viewed v b)) → Bounded Number (answered r l v i b).answer
    either (inl x) =
        let w = within x.number x.one_of in
        subst (λ (q : Reading). Bounded Number q.answer) (sym x.untouched) (subst Number (sym (number_of x.number w.0 w.1)) x.one_of)
    either (inr x) = subst (λ (q : Reading). Bounded Number q.answer) (sym x.1) (long x.0)

-- the number tells the answer
pub told_bounded : (Number : ℕ → Type 0) (r : Result ℕ Refusal) → Bounded Number r → told (code_of r) ≡ r
told_bounded Number (Err r) h = rw (lt-ltb (refusal_number r) records_at (omega (arith, (number_within r).1)), numbered r)
told_bounded Number (Ok n) h = rw (le-ltb n records_at h)

pub same_calls : (Number : ℕ → Type 0) (b d : List ℕ) (p q : Reading) → Bounded Number p.answer → SameReads b d p q
    → SameCalls Number b d (code_of p.answer) p.buffer (code_of q.answer) q.buffer
same_calls Number b d p q h (reads-refused r) = both_refused (refusal_number r) h
same_calls Number b d p q h (reads-viewed v l m) = both_viewed v h l m
