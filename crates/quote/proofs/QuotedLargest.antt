-- The figures of a quote are the largest. In a file of its own: an edit of `LargestOf` is to be refused where that is proved.
use mathlib.Core.List.{List}
use mathlib.Core.Path.{◌≡◌, subst}
use Prim.Native.Nat.{ℕ}
use Rattle.std.specs.Prelude.{Ok}
use Rattle.script_file.specs.Sections.{code_bytes}
use Rattle.quote.specs.Quoting.{quoting}
use Rattle.quote.specs.declared.Figures.{Figures}
use Rattle.quote.proofs.Files.{checked_file}
use Rattle.quote.proofs.Promises.{LargestOf, passed, figures_largest}

module _ (bs : List ℕ) (f : Figures) (q : quoting bs ≡ Ok f) where
  pub quote_largest : LargestOf (code_bytes bs) f
  quote_largest =
      subst (LargestOf (code_bytes bs)) (passed bs f q).figures
      (figures_largest (code_bytes bs) (checked_file bs (passed bs f q).loads) (passed bs f q).ahead)
