-- What a quote promises: its figures are the largest of any path, each reached by one, and no run of that code uses more.
use mathlib.Core.Bool.{Bool, true, false, cond}
use mathlib.Core.List.{List, []}
use mathlib.Core.Logic.{◌≢◌, ◌⊎◌, inl, inr}
use mathlib.Core.Path.{◌≡◌, refl, sym, ap, ◌∙◌, subst}
use Prim.Native.Nat.{ℕ, ◌+◌, ◌≤◌, ◌<◌, ◌^◌}
use native.Mathlib.Omega.{arith}
use lib.Dec.{eqb}
use lib.ListN.{length}
use lib.Seq.{get_or-drop}
use borrow.Author.Tests.{eqb-true, eqb-false}
use Rattle.model.specs.State.{Control, Store, Program}
use Rattle.model.specs.declared.Account.{Account}
use Rattle.model.specs.declared.Instr.{Instr}
use Rattle.model.specs.Decoding.{byte, fetch, after}
use Rattle.model.specs.Running.{runs, start_control, start_store}
use Rattle.model.specs.Inputs.{input_slots}
use Rattle.model.specs.declared.Ending.TheVariants.{Spent}
use Rattle.model.proofs.Spending.{spent_left}
use Rattle.formulas.specs.Lists.{among}
use Rattle.code_check.specs.Sweep.{starts, all}
use Rattle.code_check.proofs.Starts.{from}
use Rattle.noninterference.proofs.Starts.{all_among}
use Rattle.std.specs.Prelude.{Ok, Err}
use Rattle.file_sections.specs.Refusals.{refusal_number, refusal_of}
use Rattle.file_sections.specs.declared.Refusal.{Refusal}
use Rattle.file_sections.specs.declared.Refusal.TheVariants.{Ahead}
use Rattle.file_sections.proofs.Refusals.{number_of}
use Rattle.script_file.specs.Sections.{header, code_bytes}
use Rattle.script_file.specs.Checks.{refusal}
use Rattle.script_file.specs.Program.{file_inputs, file_program, file_account, file_run, file_account_over, file_program_over, file_run_over}
use Rattle.script_file.proofs.Answers.{refusal-most}
use Rattle.quote.specs.Paths.{Path, path_cost, largest}
use Rattle.quote.specs.Quoting.{Node, node, node_at, steps_at, places_at, successors_at, ahead_at, all_ahead, figures_from, code_quote, quoting}
use Rattle.quote.specs.Passes.{Checked}
use Rattle.quote.specs.declared.Figures.{Figures}
use Rattle.quote.proofs.Largest.{largest_within, Forward, most_above, unfolded, no_path_more, some_path}
use Rattle.quote.proofs.Nodes.{steps_small, places_small}
use Rattle.quote.proofs.Suffixes.{first_in}
use Rattle.quote.proofs.Onwards.{forward, steps_some}
use Rattle.quote.proofs.Follows.{node_in}
use Rattle.quote.proofs.Runs.{Bounds, Uses, runs_use}
use Rattle.quote.proofs.Files.{checked_file}

-- ── the statements ──

-- a path through the code from its first byte to an END or a THROW
abbrev pub CodePath : List ℕ → Type 0
CodePath code = Path (successors_at code) 0

-- the figures are the largest over all paths, each by itself
pub record LargestOf (code : List ℕ) (f : Figures) : Type 0 where
  pub no_more_steps : (p : CodePath code) → path_cost (steps_at code) p ≤ f.steps
  pub no_more_places : (p : CodePath code) → path_cost (places_at code) p ≤ f.places
  pub most_steps : (p : CodePath code) × (path_cost (steps_at code) p ≡ f.steps)
  pub most_places : (p : CodePath code) × (path_cost (places_at code) p ≡ f.places)

-- a program that runs this code; its labels, their order and its input records may be any
pub record Runs (code : List ℕ) (P : Program) : Type 0 where
  pub fetches : P.fetch ≡ fetch code
  pub goes_on : P.after ≡ after code

-- no run of the code from its first byte on uses more, whatever it is run with
abbrev pub NoRunMore : List ℕ → Figures → Type 0
NoRunMore code f =
    (P : Program) → Runs code P → (c : Control) → c.pc ≡ 0 → c.frames ≡ [] → (a : Account) (σ : Store)
    → Uses f.steps f.places a (runs P c a σ).account

-- ── code that passes checks 7 and 11 ──

module _ (code : List ℕ) (k : Checked code) (a : all_ahead code ≡ true) where
  abbrev Start : ℕ → Type 0
  Start i = among i (from code 0) ≡ true

  start : Start 0
  start = first_in code 0 k.some

  ahead : all (ahead_at code) (from code 0) ≡ true
  unfolding all_ahead starts
  ahead = a

  all_forward : Forward (successors_at code) (length code) Start
  all_forward = forward k.labels k.inputs code k.passes 0 start ahead

  pub figures_largest : LargestOf code (figures_from code 0)
  figures_largest =
      record {
        no_more_steps = no_path_more (steps_at code) (successors_at code) (length code) Start all_forward (length code) 0 start (omega arith);
        no_more_places = no_path_more (places_at code) (successors_at code) (length code) Start all_forward (length code) 0 start (omega arith);
        most_steps = some_path (steps_at code) (successors_at code) (length code) Start all_forward (length code) 0 start (omega arith);
        most_places = some_path (places_at code) (successors_at code) (length code) Start all_forward (length code) 0 start (omega arith);
      }

  module _ (cost : ℕ → ℕ) where
    abbrev most_from : ℕ → ℕ
    most_from = largest cost (successors_at code) (length code)

    -- it is at least what an instruction costs, with that at any of its successors
    own_most : (i : ℕ) → Start i → cost i ≤ most_from i
    own_most i h = omega (arith, unfolded cost (successors_at code) (length code) Start all_forward (length code) i h (omega arith))

    onward_most : (i j : ℕ) → Start i → among j (successors_at code i) ≡ true → cost i + most_from j ≤ most_from i
    onward_most i j h g =
        omega (
          arith,
          unfolded cost (successors_at code) (length code) Start all_forward (length code) i h (omega arith),
          most_above most_from (successors_at code i) j g,
        )

  bounds : Bounds (node_at code) Start (most_from (steps_at code)) (most_from (places_at code))
  bounds =
      record {
        ahead = λ i h. all_among (ahead_at code) (from code 0) i ahead h;
        some = λ i h. steps_some k.labels k.inputs code k.passes 0 start ahead i h;
        own = λ i h. (own_most (steps_at code) i h, own_most (places_at code) i h);
        onward = λ i j h g. (all_forward.onward i j h g, onward_most (steps_at code) i j h g, onward_most (places_at code) i j h g);
      }

  abbrev BoundsOf : (ℕ → Node) → Type 0
  BoundsOf x = Bounds x Start (most_from (steps_at code)) (most_from (places_at code))

  bounds_in : (P : Program) → Runs code P → BoundsOf (node_in P)
  unfolding node_at
  bounds_in P r =
      subst (λ (next : ℕ → ℕ). BoundsOf (λ i. node i (next i) (P.fetch i))) (sym r.goes_on)
      (subst (λ (at : ℕ → Instr). BoundsOf (λ i. node i (after code i) (at i))) (sym r.fetches) bounds)

  pub figures_bound : NoRunMore code (figures_from code 0)
  figures_bound P r c e g b σ =
      subst (λ (i : ℕ). Uses (most_from (steps_at code) i) (most_from (places_at code) i) b (runs P c b σ).account) e
      (runs_use P Start (most_from (steps_at code)) (most_from (places_at code)) (bounds_in P r) c b σ (subst Start (sym e) start) g)

-- ── a file ──

-- A file that gets no quote is refused with a number of checks 1 to 7, or with 11.
pub refused_with : (bs : List ℕ) (r : Refusal) → quoting bs ≡ Err r → ((1 ≤ refusal_number r) × (refusal_number r ≤ 7)) ⊎ (refusal_number r ≡ 11)
unfolding quoting code_quote
refused_with bs r q = file (eqb (refusal bs) 0) refl (all_ahead (code_bytes bs)) q
  where
    file : (s : Bool) → eqb (refusal bs) 0 ≡ s → (t : Bool)
        → cond s (cond t (Ok (figures_from (code_bytes bs) 0)) (Err Ahead)) (Err (refusal_of (refusal bs))) ≡ Err r
        → ((1 ≤ refusal_number r) × (refusal_number r ≤ 7)) ⊎ (refusal_number r ≡ 11)
    file true e true h = absurd (cc)
    file true e false h = let same : r ≡ Ahead = cc in inr (ap refusal_number same)
    file false e t h =
        let some = eqb-false (refusal bs) 0 e in
        let most = refusal-most bs in
        let same : r ≡ refusal_of (refusal bs) = cc in
        let n = ap refusal_number same ∙ number_of (refusal bs) (omega (arith, some)) (omega arith) in
        inl (omega (arith, some), omega arith)

-- what a file that gets a quote has passed
pub record Passed (bs : List ℕ) (f : Figures) : Type 0 where
  pub loads : refusal bs ≡ 0
  pub ahead : all_ahead (code_bytes bs) ≡ true
  pub figures : figures_from (code_bytes bs) 0 ≡ f

module _ (bs : List ℕ) (f : Figures) (q : quoting bs ≡ Ok f) where
  pub passed : Passed bs f
  unfolding quoting code_quote
  passed = file (eqb (refusal bs) 0) refl (all_ahead (code_bytes bs)) refl q
    where
      file : (s : Bool) → eqb (refusal bs) 0 ≡ s → (t : Bool) → all_ahead (code_bytes bs) ≡ t
          → cond s (cond t (Ok (figures_from (code_bytes bs) 0)) (Err Ahead)) (Err (refusal_of (refusal bs))) ≡ Ok f → Passed bs f
      file true e true g h = record { loads = eqb-true (refusal bs) 0 e; ahead = g; figures = cc }
      file true e false g h = absurd (cc)
      file false e t g h = absurd (cc)

  checked : Checked (code_bytes bs)
  checked = checked_file bs passed.loads

  -- A path has an instruction, and its figures are numbers of 32 bits.
  pub steps_least : 1 ≤ f.steps
  steps_least =
      let code = code_bytes bs in
      let first = start code checked passed.ahead in
      omega (
        arith,
        ap (λ (x : Figures). x.steps) passed.figures,
        own_most code checked passed.ahead (steps_at code) 0 first,
        steps_some checked.labels checked.inputs code checked.passes 0 first (ahead code checked passed.ahead) 0 first,
      )

  pub figures_short : ((i : ℕ) → byte bs i < 256) → (f.steps < 2 ^ 32) × (f.places < 2 ^ 32)
  unfolding code_bytes
  figures_short bytes =
      let code = code_bytes bs in
      let small : (i : ℕ) → byte code i < 256 = λ i. omega (arith, bytes ((header bs).code.offset + i), get_or-drop (header bs).code.offset bs i 0) in (
        omega (
          arith,
          ap (λ (x : Figures). x.steps) passed.figures,
          checked.short,
          largest_within (steps_at code) (successors_at code) 70000 (steps_small code small) (length code) 0,
        ),
        omega (
          arith,
          ap (λ (x : Figures). x.places) passed.figures,
          checked.short,
          largest_within (places_at code) (successors_at code) 70000 (places_small code small) (length code) 0,
        ),
      )

  -- No run of that code uses more.
  pub quote_bounds : NoRunMore (code_bytes bs) f
  quote_bounds = subst (NoRunMore (code_bytes bs)) passed.figures (figures_bound (code_bytes bs) checked passed.ahead)

  -- No run of a file with that code uses more, whatever its labels, records, numbers, steps and places.
  pub no_run_more : (cs : List ℕ) → code_bytes cs ≡ code_bytes bs → Uses f.steps f.places (file_account cs) (file_run cs).account
  unfolding file_run_over file_program_over
  no_run_more cs e =
      quote_bounds (file_program cs) (record { fetches = ap fetch e; goes_on = ap after e }) start_control refl refl (file_account cs)
      (start_store (input_slots (file_inputs cs)))

  -- So one that declares more steps never ends spent.
  pub never_spent : (cs : List ℕ) → code_bytes cs ≡ code_bytes bs → f.steps < (header cs).steps → (file_run cs).ending ≢ Spent
  unfolding file_run_over file_account_over
  never_spent cs e more spent =
      omega (
        arith,
        more,
        (no_run_more cs e).steps_used,
        spent_left (file_program cs) start_control (file_account cs) (start_store (input_slots (file_inputs cs))) spent,
      )
