-- The pass from the last instruction to the first, one instruction at a time.
use mathlib.Core.Bool.{Bool, true, false, true≢false}
use mathlib.Core.List.{List, [], ◌∷◌, reverse}
use mathlib.Core.Path.{◌≡◌, refl, sym, ap, ◌∙◌, subst}
use Prim.Native.Nat.{ℕ, zero, suc, ◌+◌, ◌-◌, ◌≤◌, ◌<◌, ◌^◌}
use native.Mathlib.Omega.{arith}
use lib.Dec.{eqb}
use borrow.Author.Tests.{eqb-true, eqb-false}
use lib.ListN.{length, get_or, set, take, replicate, length-set, length-replicate, get_or-eq_default}
use Rattle.std.proofs.Common.{length-take}
use Rattle.std.proofs.lemmas.List.{get_or-take, get_or-reverse, length-reverse}
use Rattle.std.specs.Prelude.{Some, None, Ok, Err}
use Rattle.file_sections.specs.declared.Refusal.TheVariants.{Ahead}
use lib.Seq.{get_or-set_same, get_or-set_other}
use Rattle.model.specs.Decoding.{byte, after}
use Rattle.model.proofs.Places.{blank}
use Rattle.formulas.specs.Lists.{among}
use Rattle.code_check.specs.Sweep.{starts, all}
use Rattle.code_check.proofs.Starts.{from, from_end, after_step}
use Rattle.noninterference.proofs.Starts.{all_among}
use Rattle.quote.specs.Paths.{most, largest}
use Rattle.quote.specs.Quoting.{Node, node_at, steps_at, places_at, successors_at, ahead_at, all_ahead, code_quote}
use Rattle.quote.specs.Passes.{put, at, steps_in, places_in, Small, weight_from, Checked}
use Rattle.quote.specs.declared.Figures.{Figures}
use Rattle.quote.proofs.Largest.{largest_within}
use Rattle.quote.proofs.Nodes.{steps_small, places_small}
use Rattle.quote.proofs.Suffixes.{behind, first_in, from_within, nth, nth_first, Nth, nth_start, starts_few}
use Rattle.quote.proofs.Onwards.{AllAhead, Right, start_whole, all-ahead, right_here, right_with}

-- ── the list of starts ──

module _ (n : ℕ) where
  -- what is put into a list stands there
  put_other : (xs l : List ℕ) (m k : ℕ) → k < m → get_or (put m xs l) k n ≡ get_or l k n
  put_other [] l m k lt = refl
  put_other (x ∷ xs) l m k lt = put_other xs (set l m x) (m + 1) k (omega arith) ∙ get_or-set_other l m k x n (λ e. omega arith)

  put_at : (xs l : List ℕ) (m k : ℕ) (d : ℕ) → m + length xs ≤ length l → k < length xs → get_or (put m xs l) (m + k) n ≡ get_or xs k d
  put_at [] l m k d le lt = absurd (omega arith)
  put_at (x ∷ xs) l m zero d le lt =
      ap (λ (q : ℕ). get_or (put (m + 1) xs (set l m x)) q n) (omega arith) ∙ put_other xs (set l m x) (m + 1) m (omega arith) ∙ get_or-set_same l m x n (omega arith)
  put_at (x ∷ xs) l m (suc k) d le lt =
      ap (λ (q : ℕ). get_or (put (m + 1) xs (set l m x)) q n) (omega arith) ∙ put_at xs (set l m x) (m + 1) k d (rw length-set (omega arith)) (omega arith)

  pub put_first : (xs l : List ℕ) (k : ℕ) (d : ℕ) → length xs ≤ length l → k < length xs → get_or (put 0 xs l) k n ≡ get_or xs k d
  put_first xs l k d le lt = ap (λ (q : ℕ). get_or (put 0 xs l) q n) (omega arith) ∙ put_at xs l 0 k d (omega arith) lt

length_put : (n : ℕ) (xs l : List ℕ) → length (put n xs l) ≡ length l
length_put n [] l = refl
length_put n (x ∷ xs) l = length_put (n + 1) xs (set l n x) ∙ length-set l n x

-- ── what an instruction weighs ──

pub weight_is : (fs : List Figures) (x : Node) (f : Figures) → x.ahead ≡ true → Some f ≡ weight_from fs x
    → f ≡ record { steps = x.steps + most (steps_in fs) x.successors; places = x.places + most (places_in fs) x.successors }
weight_is fs x f a e = let g = rw a at e in cc

pub weight_ahead : (fs : List Figures) (x : Node) (f : Figures) → Some f ≡ weight_from fs x → x.ahead ≡ true
weight_ahead fs x f e = by x.ahead refl
  where
    by : (t : Bool) → x.ahead ≡ t → x.ahead ≡ true
    by true q = q
    by false q = let g = rw q at e in absurd (cc)

pub weight_none : (fs : List Figures) (x : Node) → None ≡ weight_from fs x → x.ahead ≡ false
weight_none fs x e = by x.ahead refl
  where
    by : (t : Bool) → x.ahead ≡ t → x.ahead ≡ false
    by true q = let g = rw q at e in absurd (cc)
    by false q = q

-- ── the pass ──

-- the place of the k-th instruction; the code's end behind the last
abbrev pub place : List ℕ → ℕ → ℕ
place code k = nth code (from code 0) k

-- g gives one figure of each instruction from place e on
pub record Done (code : List ℕ) (cost : ℕ → ℕ) (e : ℕ) (g : ℕ → ℕ) : Type 0 where
  pub small : (i : ℕ) → g i < 2 ^ 29
  pub right : Right code cost e g

-- all but the first `left` instructions are done: they pass check 11, and their figures stand in the list;
-- `next` stands behind the others
pub record Pass (code : List ℕ) (fs : List Figures) (next : Figures) (left : ℕ) : Type 0 where
  pub within : left ≤ length (from code 0)
  pub long : length fs ≡ 4096
  pub handed : next ≡ at fs (place code left)
  pub ahead : all (ahead_at code) (from code (place code left)) ≡ true
  pub steps_done : Done code (steps_at code) (place code left) (steps_in fs)
  pub places_done : Done code (places_at code) (place code left) (places_in fs)

pub is_small : {code : List ℕ} {fs : List Figures} {next : Figures} {left : ℕ} → Pass code fs next left → Small fs
is_small p = record { steps = p.steps_done.small; places = p.places_done.small }

-- a figure, where those of one instruction are put into the list
module _ (f : Figures → ℕ) (fs : List Figures) (i : ℕ) (x : Figures) where
  put_here : i < length fs → f (at (set fs i x) i) ≡ f x
  put_here lt = ap f (get_or-set_same fs i x (record { steps = 0; places = 0 }) lt)

  put_elsewhere : (q : ℕ) → (i ≡ q → ⊥) → f (at (set fs i x) q) ≡ f (at fs q)
  put_elsewhere q other = ap f (get_or-set_other fs i q x (record { steps = 0; places = 0 }) (λ p. other (sym p)))

module _ (code : List ℕ) (k : Checked code) where
  abbrev l : ℕ
  l = k.labels

  abbrev n : ℕ
  n = k.inputs

  -- ── at first none is done ──

  abbrev count : ℕ
  count = length (from code 0)

  at_end : place code count ≡ length code
  at_end = get_or-eq_default (from code 0) (length code) (omega arith)

  none : from code (place code count) ≡ []
  none = from_end code (place code count) (omega (arith, at_end))

  none_done : (cost g : ℕ → ℕ) → ((i : ℕ) → g i ≡ 0) → Done code cost (place code count) g
  none_done cost g blank =
      record {
        small = λ i. omega (arith, blank i);
        right = λ q h. absurd (true≢false (sym (subst (λ (is : List ℕ). among q is ≡ true) none h)));
      }

  pub pass_starts : Pass code (replicate 4096 (record { steps = 0; places = 0 })) (record { steps = 0; places = 0 }) count
  pass_starts =
      record {
        within = omega arith;
        long = length-replicate {A = Figures} 4096 (record { steps = 0; places = 0 });
        handed = sym (blank 4096 (place code count) (record { steps = 0; places = 0 }));
        ahead = rw none refl;
        steps_done = none_done (steps_at code) _ (λ i. ap (λ (f : Figures). f.steps) (blank 4096 i (record { steps = 0; places = 0 })));
        places_done = none_done (places_at code) _ (λ i. ap (λ (f : Figures). f.places) (blank 4096 i (record { steps = 0; places = 0 })));
      }

  -- ── the instruction before those that are done ──

  module _ (m : ℕ) (lt : m < count) (here : ℕ) (e : here ≡ place code m) where
    nth_here : Nth code (from code 0) m
    nth_here = nth_start code m 0 (start_whole l n code k.passes) lt

    is_start : among here (from code 0) ≡ true
    is_start = subst (λ (q : ℕ). among q (from code 0) ≡ true) (sym e) nth_here.member

    pub in_code : here < length code
    in_code = (from_within code 0 here is_start).1

    done_before : place code (m + 1) ≡ behind code here
    done_before = ap (place code) (omega arith) ∙ nth_here.next ∙ ap (behind code) (sym e)

    -- so what stands behind it is handed on
    pub behind_here : (fs : List Figures) (next : Figures) → Pass code fs next (m + 1) → next ≡ at fs (after code here)
    behind_here fs next d = d.handed ∙ ap (at fs) (sym (after_step code here in_code ∙ sym done_before))

    -- check 11 stops it, and so the code
    pub stopped : ahead_at code here ≡ false → Err Ahead ≡ code_quote code
    unfolding code_quote all_ahead starts
    stopped f = rw (some_fails (all (ahead_at code) (from code 0)) refl)
      where
        some_fails : (t : Bool) → all (ahead_at code) (from code 0) ≡ t → t ≡ false
        some_fails true g = absurd (true≢false (sym (all_among (ahead_at code) (from code 0) here g is_start) ∙ f))
        some_fails false g = refl

    module _ (a : ahead_at code here ≡ true) (fs : List Figures) (next : Figures) (d : Pass code fs next (m + 1)) where
      all_here : AllAhead l n code k.passes here
      all_here =
          all-ahead l n code k.passes here is_start a
          (subst (λ (q : ℕ). all (ahead_at code) (from code q) ≡ true) done_before d.ahead)

      module _ (cost : ℕ → ℕ) (f : Figures → ℕ) (one : Done code cost (place code (m + 1)) (λ i. f (at fs i))) where
        abbrev next_figure : ℕ
        next_figure = cost here + most (λ i. f (at fs i)) (successors_at code here)

        is_right : next_figure ≡ largest cost (successors_at code) (length code) here
        is_right =
            right_here l n code k.passes here is_start all_here cost (λ i. f (at fs i)) (subst (λ (q : ℕ). Right code cost q (λ i. f (at fs i))) done_before one.right)

        -- it is small if every cost is
        figure_small : ((i : ℕ) → cost i ≤ 70000) → next_figure < 2 ^ 29
        figure_small h = omega (arith, is_right, largest_within cost (successors_at code) 70000 h (length code) here, k.short)

        one_done : ((i : ℕ) → cost i ≤ 70000) → (x : Figures) → f x ≡ next_figure → Done code cost (place code m) (λ i. f (at (set fs here x) i))
        one_done h x g =
            let put = put_here f fs here x (omega (arith, in_code, k.short, d.long)) in
            subst (λ (q : ℕ). Done code cost q (λ i. f (at (set fs here x) i))) e
            (record {
              small = λ i. smaller i (eqb here i) refl;
              right = right_with l n code k.passes here is_start all_here cost (λ i. f (at fs i))
                  (subst (λ (q : ℕ). Right code cost q (λ i. f (at fs i))) done_before one.right)
                  (λ i. f (at (set fs here x) i)) (put ∙ g ∙ is_right) (put_elsewhere f fs here x);
            })
          where
            smaller : (i : ℕ) (t : Bool) → eqb here i ≡ t → f (at (set fs here x) i) < 2 ^ 29
            smaller i true q =
                subst (λ (j : ℕ). f (at (set fs here x) j) < 2 ^ 29) (eqb-true here i q)
                (omega (arith, put_here f fs here x (omega (arith, in_code, k.short, d.long)), g, figure_small h))
            smaller i false q = omega (arith, put_elsewhere f fs here x i (eqb-false here i q), one.small i)

      pub pass_on : ((i : ℕ) → byte code i < 256) → (x : Figures) → Some x ≡ weight_from fs (node_at code here) → Pass code (set fs here x) x m
      pass_on bytes x weighs =
          let same = weight_is fs (node_at code here) x a weighs in
          record {
            within = omega arith;
            long = rw length-set d.long;
            handed = sym (ap (at (set fs here x)) (sym e) ∙ get_or-set_same fs here x (record { steps = 0; places = 0 }) (omega (arith, in_code, k.short, d.long)));
            ahead = subst (λ (q : ℕ). all (ahead_at code) (from code q) ≡ true) e all_here;
            steps_done = one_done (steps_at code) (λ y. y.steps) d.steps_done (steps_small code bytes) x (ap (λ (y : Figures). y.steps) same);
            places_done = one_done (places_at code) (λ y. y.places) d.places_done (places_small code bytes) x (ap (λ (y : Figures). y.places) same);
          }

  -- ── at last all are done ──

  module _ (fs : List Figures) (next : Figures) (d : Pass code fs next 0) where
    at_start : place code 0 ≡ 0
    at_start = nth_first code 0 (omega arith)

    whole_figure : (cost g : ℕ → ℕ) → Done code cost (place code 0) g → g 0 ≡ largest cost (successors_at code) (length code) 0
    whole_figure cost g one = one.right 0 (rw at_start (first_in code 0 k.some))

    pub all_done : Ok next ≡ code_quote code
    unfolding code_quote all_ahead starts
    all_done =
        let passed : all (ahead_at code) (from code 0) ≡ true = subst (λ (e : ℕ). all (ahead_at code) (from code e) ≡ true) at_start d.ahead in
        let handed : next ≡ at fs 0 = d.handed ∙ ap (at fs) at_start in
        rw (handed, passed, ← whole_figure (steps_at code) (steps_in fs) d.steps_done, ← whole_figure (places_at code) (places_in fs) d.places_done)

-- ── the list of the starts, from the last to the first ──

module _ (code : List ℕ) (k : Checked code) (count : ℕ) (counts : count ≡ length (starts code)) where
  pub starts_counted : (count ≡ length (from code 0)) × (count ≤ 4096)
  unfolding starts
  starts_counted = (counts, omega (arith, starts_few code, k.short))

  -- the item behind y others is the start of the instruction before those that are done
  pub item_at : (list : List ℕ) → list ≡ put 0 (starts code) (replicate 4096 0) → (y x : ℕ)
      → (y < length (reverse (take count list))) × (x ≡ get_or (reverse (take count list)) y x) → (y < count) × (x ≡ place code (count - (y + 1)))
  unfolding starts
  item_at list is y x h =
      let n = starts_counted in
      let long : length list ≡ 4096 = ap length is ∙ length_put 0 (from code 0) (replicate 4096 0) ∙ length-replicate {A = ℕ} 4096 0 in
      let all : length (take count list) ≡ count = omega (arith, length-take count list) in
      let lt : y < count = omega (arith, h.0, length-reverse (take count list)) in
      let m : length (take count list) - 1 - y ≡ count - (y + 1) = omega arith in (
        lt,
        h.1 ∙ get_or-reverse (take count list) y x (omega arith) ∙ ap (λ (q : ℕ). get_or (take count list) q x) m
            ∙ get_or-take count list (count - (y + 1)) x (omega arith) ∙ ap (λ (l : List ℕ). get_or l (count - (y + 1)) x) is
            ∙ put_first x (from code 0) (replicate 4096 0) (count - (y + 1)) (length code) (rw length-replicate (omega arith)) (omega arith),
      )

  -- so one less is left than before
  pub one_less : (y : ℕ) → y < count → count - y ≡ count - (y + 1) + 1
  one_less y lt = omega arith
