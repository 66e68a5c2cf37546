-- Each turn writes the next label's line behind those before it.
use Rattle.std.proofs.Common.{◌≡◌, ap, ◌∙◌, arith, List, [], ◌++◌, ℕ, ◌+◌, ◌-◌, ◌≤◌, ◌<◌, length, get_or, take}
use Rattle.std.proofs.lemmas.List.{length-take}
use Rattle.labels.specs.declared.Label.{Label}
use Rattle.model.specs.State.{Store}
use Rattle.model.specs.declared.Finished.{Finished}
use Rattle.machine.specs.Steps.{Finishes}
use Rattle.script_file.specs.Sections.{header}
use Rattle.script_file.specs.Program.{file_run}
use Rattle.script_file.specs.declared.script.Script.{Script}
use Rattle.view.specs.Reading.{file_view}
use Rattle.view.specs.Layout.{view}
use Rattle.view.specs.Writing.{observes, finished}
use Rattle.view_fields.proofs.Buffers.{next, ends, ends_at, room_for_next}
use Rattle.lines.specs.Lines.{line, lines}
use Rattle.reading.proofs.Calls.{shown_view}
use Rattle.file_lines.specs.Lines.{file_lines}
use Rattle.file_lines.specs.Room.{most_printed}
use Rattle.file_lines.proofs.Lengths.{lines_most}
use Rattle.file_lines.proofs.Labels.{few, all_held, next_line, no_line, label_read}
use Rattle.file_lines.proofs.write_lines.Goals as goal

module _ (s : Script) (f : Finished) (σ : Store) (ran : Finishes f σ (file_run s.file.now)) where
  -- there is room for the lines of all the labels
  room : length σ ≡ 256 → (out : List ℕ) → most_printed ≤ length out → length (file_lines s.file.now) ≤ length out
  room places out m =
      let e : length (file_run s.file.now).store ≡ 256 = ap length ran.store ∙ places in
      let n : (header s.file.now).labels.count ≤ 32 = rw (← s.loads.numbers) (few s) in
      omega (arith, lines_most s.file.now (omega arith) (header s.file.now).labels.count 0)

  -- what the label at i is shown, and its line
  shown : (i : ℕ) (d : Label) → i < length (take s.header.labels.count s.labels.now)
      → view (observes (get_or (take s.header.labels.count s.labels.now) i d)) s.header.steps (finished f σ)
      ≡ file_view s.file.now i
  shown i d h =
      shown_view s.file.now s.header s.labels.now s.loads i _ f σ (label_read s.labels.now s.header.labels.count i d h) ran

  here : (i : ℕ) (d : Label) → i < length (take s.header.labels.count s.labels.now)
      → lines s.file.now (s.header.labels.count - i) i
      ≡ line (view (observes (get_or (take s.header.labels.count s.labels.now) i d)) s.header.steps (finished f σ))
      ++ lines s.file.now (s.header.labels.count - (i + 1)) (i + 1)
  here i d h =
      let n = length-take s.header.labels.count s.labels.now in
      next_line s.file.now s.header.labels.count i (omega arith) (shown i d h)

pub run_file-finish-requires : goal.run_file-finish-requires
run_file-finish-requires c = c.no_records-store.ensures

pub shared_ref_as_front-reader-items : goal.shared_ref_as_front-reader-items
shared_ref_as_front-reader-items c = few c.args.script

pub offset_bounds-reader-items-reader-index : goal.offset_bounds-reader-items-reader-index
offset_bounds-reader-items-reader-index c =
    omega (arith, few c.args.script, length-take c.args.script.header.labels.count c.args.script.labels.now)

pub write_shown-at-requires : goal.write_shown-at-requires
write_shown-at-requires c =
    let a = c.args in
    let f = c.run_file-finish in
    room_for_next c.loop-reader.invariant (room a.script f.result f.new.store f.ensures f.array_long a.out.now c.requires) _ _
    (here a.script f.result f.new.store f.ensures c.loop-reader.reader-index _ c.loop-reader-test.true)

pub overflow_add-at : goal.overflow_add-at
overflow_add-at c =
    let a = c.args in
    let f = c.run_file-finish in
    let w = next c.loop-reader.invariant (room a.script f.result f.new.store f.ensures f.array_long a.out.now c.requires) _
    (here a.script f.result f.new.store f.ensures c.loop-reader.reader-index _ c.loop-reader-test.true)
    c.write_shown-at.ensures.count c.write_shown-at.ensures.written in
    omega (arith, w.room, w.same)

pub loop-reader-preserved : goal.loop-reader-preserved
loop-reader-preserved c =
    let a = c.args in
    let f = c.run_file-finish in
    next c.loop-reader.invariant (room a.script f.result f.new.store f.ensures f.array_long a.out.now c.requires) _
    (here a.script f.result f.new.store f.ensures c.loop-reader.reader-index _ c.loop-reader-test.true)
    c.write_shown-at.ensures.count c.write_shown-at.ensures.written

-- no label is left
none : (s : Script) (i : ℕ) → length (take s.header.labels.count s.labels.now) ≤ i
    → lines s.file.now (s.header.labels.count - i) i ≡ []
none s i h =
    no_line s.file.now s.header.labels.count i (omega (arith, all_held s, length-take s.header.labels.count s.labels.now))

pub returns-clause-count : goal.returns-clause-count
returns-clause-count c =
    ends_at c.loop-reader.invariant (none c.args.script c.loop-reader.reader-index c.loop-reader-test.false)

pub returns-clause-written : goal.returns-clause-written
returns-clause-written c =
    ends c.loop-reader.invariant (none c.args.script c.loop-reader.reader-index c.loop-reader-test.false)
