-- The parts of a read put together: each lemma is what one return of the code promises.
use mathlib.Core.List.{List}
use mathlib.Core.Path.{◌≡◌, sym, ap}
use Prim.Native.Nat.{ℕ, zero, suc, ◌^◌, ◌≤◌, ◌<◌}
use native.Mathlib.Omega.{arith}
use borrow.Author.Tests.{lt-ltb, le-ltb, lt-leb, le-leb}
use lib.Dec.{eqb-suc-zero}
use lib.ListN.{length}
use Rattle.std.specs.Prelude.{Ok, Err}
use Rattle.labels.specs.declared.Label.{Label}
use Rattle.model.specs.State.{Store}
use Rattle.model.specs.Inputs.{inputs, input_slots}
use Rattle.model.specs.Running.{runs, start_control, start_account, start_store}
use Rattle.model.specs.FileLabels.{label_in}
use Rattle.model.specs.declared.Finished.{Finished}
use Rattle.machine.specs.Steps.{Finishes}
use Rattle.operands.specs.Program.{count, program}
use Rattle.file_sections.specs.Sections.{inputs_over}
use Rattle.file_sections.specs.Refusals.{refusal_of, answer}
use Rattle.file_sections.specs.declared.Refusal.{Refusal}
use Rattle.script_file.specs.Sections.{header, record_bytes, code_bytes, label_at}
use Rattle.script_file.specs.Checks.{refusal}
use Rattle.script_file.specs.Loading.{loaded}
use Rattle.script_file.specs.Parts.{Loads}
use Rattle.script_file.specs.Program.{file_run, file_account_over, file_run_over}
use Rattle.script_file.specs.declared.Header.{Header}
use Rattle.script_file.proofs.Limits.{Counted, Placed}
use Rattle.script_file.proofs.Answers.{within-limits, in_place}
use Rattle.script_file.proofs.Findings.{records_in, code_in, records-in, code-in}
use Rattle.view.specs.Layout.{view}
use Rattle.view.specs.Reading.{refuse, show, answered, reading, file_view, file_view_over}
use Rattle.view_fields.specs.Writing.{over}
use Rattle.view.specs.Writing.{observes, finished, shown_in}
use Rattle.view.proofs.Widths.{view_finished}
use Rattle.reading.specs.Answers.{reads}
use Rattle.reading.proofs.Parts.{labels_are, records_length, records_counted, code_length, program_is}

-- ── the view and the buffer ──

module _ (v b out : List ℕ) (e : out ≡ shown_in v b) where
  pub show_short : length b < length v → refuse 9 out ≡ show v b
  unfolding shown_in
  show_short h = rw (e, lt-leb (length v) (length b) h)

  pub show_whole : (n : ℕ) → length v ≤ length b → n ≡ length v → record { answer = Ok n; buffer = out } ≡ show v b
  unfolding shown_in over
  show_whole n h f = rw (f, e, le-leb (length v) (length b) h)

-- ── the run ──

module _ (bs : List ℕ) (h : Header) (ls : List Label) (w : Loads bs h ls) where
  limits : Counted h
  limits = rw w.numbers (within-limits bs w.none)

  ordered : Placed h (length bs)
  ordered = rw w.numbers (in_place bs w.none)

  records_are : records_in h bs ≡ record_bytes bs
  records_are = records-in bs h w.numbers ordered.code

  code_is : code_in h bs ≡ code_bytes bs
  code_is = code-in bs h w.numbers

  pub records_first : h.records.offset ≤ h.code.offset
  records_first = omega (arith, ordered.code)

  pub code_within : h.code.offset ≤ length bs
  code_within = omega (arith, ordered.whole)

  pub records_short : length (records_in h bs) ≤ 384
  records_short = rw records_are (let e = records_length bs w.none in let m = (within-limits bs w.none).records in omega arith)

  pub code_short : length (code_in h bs) < 2 ^ 16
  code_short = rw code_is (let m = code_length bs w.none in omega arith)

  pub inputs_fit : count (records_in h bs) ≤ h.places
  inputs_fit = rw (records_are, records_counted bs w.none, ← w.numbers) limits.inputs_fit

  pub places_fit : h.places ≤ 256
  places_fit = limits.places

  pub run_is : (l c : Label) (σ : Store) → l ≡ label_in ls 0 → c ≡ label_in ls 1
      → σ ≡ start_store (input_slots (inputs (label_in ls) (records_in h bs) (count (records_in h bs)) 0))
      → runs (program (code_in h bs) ls (records_in h bs)) start_control (start_account l c h.steps (count (records_in h bs)) h.places) σ ≡ file_run bs
  unfolding file_run_over file_account_over inputs_over
  run_is l c σ el ec es =
      rw (el, ec, es, records_are, code_is, w.numbers, w.labels, program_is bs w.none, labels_are bs, records_counted bs w.none)

-- ── the answers ──

-- what a file or a day that is refused promises: the answer is the refusal, and the buffer is as it was
pub stopped : {A : Type 0} (n l : ℕ) (v : List ℕ) (i : ℕ) (b : List ℕ) (a : A) {r : Refusal} → Err r ≡ answer n a → reads (Err r) b ≡ answered n l v i b
stopped zero l v i b a e = absurd cc
stopped (suc n) l v i b a {r} e = let same : r ≡ refusal_of (suc n) = cc in rw (eqb-suc-zero n, same)

pub read_stopped : (bs : List ℕ) (i : ℕ) (b : List ℕ) {r : Refusal} → Err r ≡ loaded bs → reads (Err r) b ≡ reading bs i b
unfolding reading loaded
read_stopped bs i b e = stopped (refusal bs) (header bs).labels.count (file_view bs i) i b (header bs) e

-- what label i is shown of what the run left
pub shown_view : (bs : List ℕ) (h : Header) (ls : List Label) → Loads bs h ls → (i : ℕ) (l : Label) (f : Finished) (σ : Store)
    → l ≡ label_in ls i → Finishes f σ (file_run bs) → view (observes l) h.steps (finished f σ) ≡ file_view bs i
unfolding file_view_over
shown_view bs h ls w i l f σ e k =
    rw (e, w.labels, labels_are bs, w.numbers, ← k.store)
    (sym (view_finished (observes (label_at bs i)) (header bs).steps (file_run bs) f k.ending k.label k.clearance k.steps k.next))

module _ (bs : List ℕ) (h : Header) (ls : List Label) (w : Loads bs h ls) (i : ℕ) (b : List ℕ) where
  pub read_unlisted : h.labels.count ≤ i → refuse 8 b ≡ reading bs i b
  unfolding reading
  read_unlisted g = rw (w.none, le-ltb i (header bs).labels.count (rw (← w.numbers) g))

  pub read_shown : (l : Label) (f : Finished) (σ : Store) → i < h.labels.count → l ≡ label_in ls i → Finishes f σ (file_run bs)
      → show (view (observes l) h.steps (finished f σ)) b ≡ reading bs i b
  unfolding reading
  read_shown l f σ g e k =
      rw (w.none, lt-ltb i (header bs).labels.count (rw (← w.numbers) g))
      (ap (λ (v : List ℕ). show v b) (shown_view bs h ls w i l f σ e k))
