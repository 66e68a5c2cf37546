-- The array holds the view, since it is as long as the longest one: what is read back from it is the view.
use Rattle.std.proofs.Common.{◌≡◌, sym, ◌∙◌, arith, List, ℕ, ◌≤◌, length, take, replicate}
use Rattle.std.proofs.lemmas.List.{length-replicate, length-take-le}
use borrow.Author.Tests.{le-leb}
use Rattle.labels.specs.declared.Label.{Label}
use Rattle.view_fields.specs.Writing.{over}
use Rattle.view_fields.proofs.Buffers.{written_within, taken_back}
use Rattle.view.specs.declared.Run.{Run}
use Rattle.view.specs.Layout.{view_length}
use Rattle.view.specs.Writing.{observes, outcome, run_view, shown_in}
use Rattle.view.proofs.Widths.{length_view}
use Rattle.file_lines.proofs.write_shown.Goals as goal

-- the length n of the view that is shown, and the local array with it
module _ (reader : Label) (r : Run) (n : ℕ) (array : List ℕ) (most : n ≤ 33998)
    (e : n ≡ view_length (observes reader) r.store.now)
    (w : array ≡ shown_in (run_view reader r) (replicate 33998 0)) where
  as_long : n ≡ length (run_view reader r)
  as_long = e ∙ sym (length_view (observes reader) r.steps (outcome r))

  written : array ≡ over (run_view reader r) (replicate 33998 0)
  unfolding shown_in
  written =
      let z = length-replicate {A = ℕ} 33998 0 in
      w ∙ rw (le-leb (length (run_view reader r)) (length {A = ℕ} (replicate 33998 0)) (omega (arith, as_long)))

  held : take n array ≡ run_view reader r
  held = taken_back (run_view reader r) (replicate 33998 0) as_long written

  fits : n ≤ length array
  fits = written_within (run_view reader r) (replicate 33998 0) as_long written

pub slice_bounds-view-end : goal.slice_bounds-view-end
slice_bounds-view-end c =
    let e = c.show_view-n.ensures in
    fits c.args.reader c.args.run c.show_view-n.result c.show_view-n.new.out e.most e.length e.shown

pub slice_bounds-write_line-end : goal.slice_bounds-write_line-end
slice_bounds-write_line-end c =
    let e = c.show_view-n.ensures in
    sym (length-take-le _ c.show_view-n.new.out
    (fits c.args.reader c.args.run c.show_view-n.result c.show_view-n.new.out e.most e.length e.shown))

pub write_line-requires : goal.write_line-requires
write_line-requires c =
    let e = c.show_view-n.ensures in
    rw (held c.args.reader c.args.run c.show_view-n.result c.show_view-n.new.out e.most e.length e.shown) c.requires

pub returns-clause-count : goal.returns-clause-count
returns-clause-count c =
    let e = c.show_view-n.ensures in
    rw (held c.args.reader c.args.run c.show_view-n.result c.show_view-n.new.out e.most e.length e.shown)
    at c.write_line.ensures.count

pub returns-clause-written : goal.returns-clause-written
returns-clause-written c =
    let e = c.show_view-n.ensures in
    rw (held c.args.reader c.args.run c.show_view-n.result c.show_view-n.new.out e.most e.length e.shown)
    at c.write_line.ensures.written
