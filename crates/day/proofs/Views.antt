-- The views of a day on their way into the buffer, and how long they can get.
use mathlib.Core.Bool.{Bool, true, false}
use mathlib.Core.List.{List, ◌++◌}
use mathlib.Core.Logic.{⊎_elim}
use mathlib.Core.Path.{◌≡◌, refl, sym, ap, ◌∙◌}
use Prim.Native.Nat.{ℕ, ◌+◌, ◌-◌, ◌*◌, ◌≤◌, ◌<◌}
use native.Mathlib.Omega.{arith}
use lib.ListN.{length, replicate, take, drop, length-drop, take-append-drop}
use borrow.Author.Tests.{le-leb, lt-leb}
use Rattle.formulas.proofs.Tests.{lt_or_ge}
use Rattle.labels.specs.declared.Label.{Label}
use Rattle.model.specs.State.{Store}
use Rattle.model.specs.FileLabels.{label_in}
use Rattle.model.specs.Inputs.{inputs, input_slots}
use Rattle.model.specs.Running.{start_store}
use Rattle.model.specs.declared.Finished.{Finished}
use Rattle.machine.specs.Steps.{Finishes}
use Rattle.operands.specs.Program.{count}
use Rattle.view_fields.specs.Fields.{little_endian}
use Rattle.view_fields.specs.Writing.{over, numbers}
use Rattle.view_fields.proofs.Buffers.{part, back, part_drop, back_over}
use Rattle.view.specs.Layout.{view}
use Rattle.view.specs.Writing.{finished, shown_in}
use Rattle.view.proofs.Widths.{length_view, view_finished}
use Rattle.view.proofs.LengthField.{view_most}
use Rattle.file_sections.specs.Sections.{record_bytes_of, inputs_over}
use Rattle.day_file.specs.declared.Job.{Job}
use Rattle.day_file.specs.declared.Header.{Header}
use Rattle.day_file.specs.Parts.{DayLoads}
use Rattle.day_file.specs.Sections.{day_header, day_sections, day_inputs}
use Rattle.admission.specs.declared.Allowance.{Allowance}
use Rattle.admission.specs.Admission.{fits, allowed, left_after, day_admitted}
use Rattle.admission.specs.Allowances.{allowance_of, callers_after, allowances_of}
use Rattle.admission.proofs.Allowances.{Holds, at_first, answered, holds_then}
use Rattle.day_jobs.specs.JobEnd.{end_job}
use Rattle.day_jobs.specs.Running.{job_run, store_after, store_after_over, day_turns, day_turns_over}
use Rattle.day.specs.Views.{skipped_view, skipped_view_over, turn_view, turn_view_over, turn_views}
use Rattle.day.specs.Parts.{shown_at, job_view}
use Rattle.day_jobs.proofs.Jobs.{counted, labels_are}
use Rattle.day_jobs.proofs.Turns.{job}
use Rattle.day.proofs.Turns.{made, made_skipped, made_ran, made_nothing, made_all, Shows, shows_none, shows_more, shows_all}

-- ── a view from a place of the buffer on ──

pub shown_fits : (at : ℕ) (v b ys : List ℕ) → at + length v ≤ length b → ys ≡ over v (part at b) → back at b ys ≡ shown_at at v b
unfolding shown_at
shown_fits at v b ys h e = back_over at b v ys e ∙ sym (rw (le-leb (at + length v) (length b) h))

pub shown_not : (at : ℕ) (v b : List ℕ) → length b < at + length v → b ≡ shown_at at v b
unfolding shown_at
shown_not at v b h = rw (lt-leb (at + length v) (length b) h)

-- the part from `at` on comes back with v shown in it
pub shown_part : (at : ℕ) (v b ys : List ℕ) → at ≤ length b → ys ≡ shown_in v (part at b) → back at b ys ≡ shown_at at v b
unfolding shown_in
shown_part at v b ys h e =
    ⊎_elim (λ s. ap (back at b) (none s) ∙ whole ∙ shown_not at v b s) (λ s. shown_fits at v b ys s (some s)) (lt_or_ge (length b) (at + length v))
  where
    long : length (part at b) ≡ length b - at
    long = ap length (part_drop at b) ∙ length-drop at b

    none : length b < at + length v → ys ≡ part at b
    none s = e ∙ rw (lt-leb (length v) (length (part at b)) (omega (arith, long)))

    some : at + length v ≤ length b → ys ≡ over v (part at b)
    some s = e ∙ rw (le-leb (length v) (length (part at b)) (omega (arith, long)))

    whole : back at b (part at b) ≡ b
    whole = ap (λ (y : List ℕ). take at b ++ y) (take-append-drop (length b - at) (drop at b)) ∙ take-append-drop at b

pub length_skipped : length skipped_view ≡ 206
unfolding skipped_view_over little_endian
length_skipped = refl

-- a skipped job's view in the parts that are written
pub skipped_parts : (b : List ℕ) → over (numbers 4 0 0 ++ (numbers 0 206 206 ++ replicate 194 0)) b ≡ over skipped_view b
unfolding skipped_view_over numbers little_endian
skipped_parts b = refl

-- ── the jobs one by one ──

module _ (Reads : Label → Bool) (bs : List ℕ) where
  abbrev whole : List ℕ
  whole = turn_views Reads (day_turns bs)

  abbrev first : ℕ
  first = (day_header bs).jobs.offset

  abbrev n : ℕ
  n = (day_header bs).jobs.count

  -- the views of the jobs from job k on, with so many steps left to each caller and the records in σ
  abbrev left_over : ℕ → (ℕ → ℕ) → Store → List ℕ
  left_over k left σ = made (turn_view Reads) bs first n k left σ

  -- job k
  abbrev pub job_at : ℕ → Job
  job_at k = job bs first n k

  -- the jobs below k have had their turn; the buffer was b₀ and is b, filled up to `at`
  pub record Served (b₀ b : List ℕ) (σ : Store) (callers : List Allowance) (at k : ℕ) : Type 0 where
    pub left : ℕ → ℕ
    pub allowances : Holds callers left
    pub some : k ≤ n
    pub few : at ≤ 33998 * k
    pub shows : Shows whole (left_over k left σ) b₀ b at

  pub none_served : (b : List ℕ) (σ : Store) (callers : List Allowance) → callers ≡ allowances_of (day_header bs).steps
      → σ ≡ start_store (input_slots (day_inputs bs)) → Served b b σ callers 0 0
  unfolding day_turns_over day_admitted
  none_served b σ callers e s =
      record {
        left = allowed (day_header bs).steps;
        allowances = rw e (at_first (day_header bs).steps);
        some = omega arith;
        few = omega arith;
        shows = shows_none (rw s (made_all (turn_view Reads) bs first n (allowed (day_header bs).steps) (start_store (input_slots (day_inputs bs)))));
      }

  -- job k, which is j, has its turn, and is answered so
  module _ {b₀ b : List ℕ} {σ : Store} {callers : List Allowance} {at k : ℕ} (w : Served b₀ b σ callers at k) (h : k < n)
      {j : Job} (is : j ≡ job_at k) (small : j.caller < 16)
      {callers' : List Allowance} (rest : callers' ≡ callers_after callers j.caller j.steps) where
    abbrev Answered : Bool → Type 0
    Answered t = fits (allowance_of callers j.caller).left j.steps ≡ t

    as_answered : {t : Bool} → Answered t → fits (w.left j.caller) j.steps ≡ t
    as_answered s = sym (answered w.allowances j small) ∙ s

    allowances_then : Holds callers' (left_after w.left j)
    allowances_then = rw rest (holds_then w.allowances j small)

    pub one_skipped : Answered false → {b' : List ℕ} → b' ≡ shown_at at skipped_view b → length b' ≡ length b
        → {m : ℕ} → m ≡ 206 → Served b₀ b' σ callers' (at + m) (k + 1)
    unfolding turn_view_over
    one_skipped s q z e =
        record {
          left = left_after w.left j;
          allowances = allowances_then;
          some = omega arith;
          few = omega (arith, w.few);
          shows =
              shows_more w.shows skipped_view
              (rw is (made_skipped (turn_view Reads) bs first n k w.left σ h (rw is at (as_answered s)))) (e ∙ sym length_skipped) q z;
        }

    -- its view, and the views behind it
    view_here : Answered true → left_over k w.left σ ≡ job_view Reads bs j σ ++ left_over (k + 1) (left_after w.left j) (store_after bs j σ)
    unfolding turn_view_over
    view_here s = rw is (made_ran (turn_view Reads) bs first n k w.left σ h (rw is at (as_answered s)))

    pub one_ran : Answered true → {τ : Store} → τ ≡ store_after bs j σ
        → {m : ℕ} → m ≤ 33998 → m ≡ length (job_view Reads bs j σ)
        → {b' : List ℕ} → b' ≡ shown_at at (job_view Reads bs j σ) b → length b' ≡ length b
        → Served b₀ b' τ callers' (at + m) (k + 1)
    one_ran s then {m} few e q same =
        record {
          left = left_after w.left j;
          allowances = allowances_then;
          some = omega arith;
          few = omega (arith, w.few);
          shows = rw then (shows_more w.shows (job_view Reads bs j σ) (view_here s) e q same);
        }

  module _ {b₀ b : List ℕ} {σ : Store} {callers : List Allowance} {at k : ℕ} (w : Served b₀ b σ callers at k) where
    pub all_served : n ≤ k → (at ≡ length whole) × (length whole ≤ length b₀ → b ≡ over whole b₀)
    all_served h = shows_all w.shows (made_nothing (turn_view Reads) bs first n k w.left σ h)

-- ── a job that is served ──

module _ (Reads : Label → Bool) (bs : List ℕ) (j : Job) (σ : Store) (f : Finished) (τ : Store) (fin : Finishes f τ (job_run bs j σ)) where
  pub served_view : view Reads j.steps (finished f τ) ≡ job_view Reads bs j σ
  served_view =
      sym (
      view_finished Reads j.steps (job_run bs j σ) f fin.ending fin.label fin.clearance fin.steps fin.next
      ∙ ap (λ (τ : Store). view Reads j.steps (finished f τ)) fin.store
      )

  pub served_store : (c : ℕ) → c ≡ (day_header bs).records.count → (next : Store) → next ≡ end_job c τ → next ≡ store_after bs j σ
  unfolding store_after_over
  served_store c e next q = q ∙ rw (e, fin.store)

  pub served_length : length τ ≤ 256 → (n : ℕ) → n ≡ length (view Reads j.steps (finished f τ)) → n ≤ 33998
  served_length z n e = omega (arith, e, length_view Reads j.steps (finished f τ), view_most Reads τ z)

-- ── the start ──

-- what the input records are placed by
pub inputs_placed : {bs : List ℕ} {h : Header} {ls : List Label} → DayLoads bs h ls → {rs : List ℕ} → rs ≡ record_bytes_of (day_sections bs) bs
    → (σ : Store) → σ ≡ start_store (input_slots (inputs (label_in ls) rs (count rs) 0)) → σ ≡ start_store (input_slots (day_inputs bs))
unfolding inputs_over
inputs_placed w are σ e = e ∙ rw (labels_are w, counted w are, are, w.numbers)
