-- Labels, label entries: what reading bytes as one gives, and what writing one leaves. Assumes nothing.
use Rattle.std.specs.Prelude.{Bool, cond, ◌&&◌, List, ◌∷◌, ◌++◌, ℕ, ◌+◌, leb, length, take, drop, get_or, Option, Some, None}
use Rattle.formulas.specs.Formula.{table}
use Rattle.formulas.specs.Normal.{canonical, most_clauses, clauses}
use Rattle.labels.specs.Tables.{principals, whole, in_words}
use Rattle.labels.specs.Order.{label_over}
use Rattle.labels.specs.declared.Table.{Table}
use Rattle.labels.specs.declared.Label.{Label}

-- ---- reading

-- Labels: "A label entry is two count bytes (S clauses, I clauses), then the masks."
abbrev pub secrecy_masks : List ℕ → List ℕ
secrecy_masks xs = take (get_or xs 0 0) (drop 2 xs)

abbrev pub integrity_masks : List ℕ → List ℕ
integrity_masks xs = take (get_or xs 1 0) (drop (2 + get_or xs 0 0) xs)

abbrev pub entry_length : List ℕ → ℕ
entry_length xs = 2 + get_or xs 0 0 + get_or xs 1 0

-- Labels: "Masks of one formula ascend strictly, none is a subset of another", each is below 2 ^ n, and a formula has at most
-- so many such clauses
unfoldable pub well_formed_over : ℕ → List ℕ → Bool
well_formed_over n xs =
    leb 2 (length xs)
    && leb (get_or xs 0 0) (most_clauses n)
    && leb (get_or xs 1 0) (most_clauses n)
    && leb (entry_length xs) (length xs)
    && canonical n (secrecy_masks xs)
    && canonical n (integrity_masks xs)

-- the label that the entry at the start of xs gives, and the entry's length, over n principals and over those that there are
unfoldable pub read_entry_over : ℕ → List ℕ → Option (Label × ℕ)
read_entry_over n xs =
    cond (well_formed_over n xs) (Some (label_over n (secrecy_masks xs) (integrity_masks xs), entry_length xs)) None

abbrev pub read_entry : List ℕ → Option (Label × ℕ)
read_entry = read_entry_over principals

-- one formula of an entry, by its masks
unfoldable pub read_formula : List ℕ → Option Table
read_formula ms =
    cond (leb (length ms) (most_clauses principals) && canonical principals ms) (Some (in_words (table principals ms))) None

-- ---- writing

-- Labels: "Every table that can arise has one such list, and writing it gives that list." Any other table has a list too.
abbrev pub clauses_of : Table → List ℕ
clauses_of t = clauses principals (whole t)

abbrev pub entry_bytes : Label → List ℕ
entry_bytes l =
    length (clauses_of l.secrecy) ∷ length (clauses_of l.integrity) ∷ (clauses_of l.secrecy ++ clauses_of l.integrity)

-- the buffer has room for the entry
abbrev pub fits : Label → List ℕ → Bool
fits l out = leb (length (entry_bytes l)) (length out)

unfoldable pub write_answer : Label → List ℕ → Option ℕ
write_answer l out = cond (fits l out) (Some (length (entry_bytes l))) None

-- the buffer afterwards: the entry at its start and the rest as it was, or all as it was
unfoldable pub write_buffer : Label → List ℕ → List ℕ
write_buffer l out = cond (fits l out) (entry_bytes l ++ drop (length (entry_bytes l)) out) out
