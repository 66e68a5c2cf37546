-- A read of a day that loads: each lemma is what one return of the code promises.
use Rattle.std.specs.Prelude.{Ok}
use mathlib.Core.Bool.{true, false}
use mathlib.Core.List.{List}
use mathlib.Core.Path.{◌≡◌}
use Prim.Native.Nat.{ℕ, ◌≤◌, ◌<◌}
use borrow.Author.Tests.{lt-ltb, le-ltb, leb-true}
use lib.Dec.{leb}
use lib.ListN.{length}
use Rattle.labels.specs.declared.Label.{Label}
use Rattle.model.specs.FileLabels.{label_in}
use Rattle.view_fields.specs.Writing.{over}
use Rattle.view.specs.Reading.{refuse}
use Rattle.reading.specs.Answers.{reads}
use Rattle.day_file.specs.declared.Header.{Header}
use Rattle.day_file.specs.Parts.{DayLoads}
use Rattle.day_file.specs.Sections.{day_header}
use Rattle.day.specs.Views.{day_view, day_view_over, day_reading}
use Rattle.day.specs.Parts.{views_for, WrittenIfRoom}
use Rattle.day_jobs.proofs.Jobs.{labels_are}

module _ {bs : List ℕ} {h : Header} {ls : List Label} (w : DayLoads bs h ls) (i : ℕ) (b : List ℕ) where
  pub read_unlisted : h.labels.count ≤ i → refuse 8 b ≡ day_reading bs i b
  unfolding day_reading
  read_unlisted g = rw (w.none, le-ltb i (day_header bs).labels.count (rw (← w.numbers) g))

  module _ (l : Label) (g : i < h.labels.count) (e : l ≡ label_in ls i) where
    -- what label i is shown
    views_are : views_for l bs ≡ day_view bs i
    unfolding day_view_over
    views_are = rw (e, labels_are w)

    pub read_short : leb (length (views_for l bs)) (length b) ≡ false → refuse 9 b ≡ day_reading bs i b
    unfolding day_reading
    read_short n = rw (w.none, lt-ltb i (day_header bs).labels.count (rw (← w.numbers) g), rw views_are at n)

    pub read_shown : leb (length (views_for l bs)) (length b) ≡ true → (n : ℕ) (out : List ℕ) → n ≡ length (views_for l bs)
        → WrittenIfRoom (views_for l bs) b out → reads (Ok n) out ≡ day_reading bs i b
    unfolding day_reading over
    read_shown t n out long q =
        let fits = rw views_are at t in
        rw (w.none, lt-ltb i (day_header bs).labels.count (rw (← w.numbers) g), fits, long, q (leb-true _ _ t), views_are)
