-- Bench cases: P1 to P8, each a test, as the start of one table. T-07: "P1 to P5 hold in each of the four words". Assumes
-- nothing.
use Rattle.std.specs.Prelude.{Bool, true, not, ◌&&◌, List, [], ◌∷◌, ℕ, eqb}
use Rattle.formulas.specs.Formula.{table}
use Rattle.labels.specs.Tables.{principals, in_words}
use Rattle.labels.specs.Order.{label, flows, join}
use Rattle.labels.specs.declared.Table.{Table}
use Rattle.labels.specs.declared.Label.{Label}

-- the case P number, and whether it holds
pub record Case : Type 0 where
  pub number : ℕ
  pub holds : Bool

-- the last is looked at first, so that a late case that fails is found before the others are computed
abbrev pub all_hold : List Case → Bool
all_hold [] = true
all_hold (c ∷ cs) = all_hold cs && c.holds

abbrev same_table : Table → Table → Bool
same_table a b =
    eqb a.word0 b.word0 && eqb a.word1 b.word1 && eqb a.word2 b.word2 && eqb a.word3 b.word3

-- the list of clauses has a table with this in each of its words
abbrev table_is : List ℕ → ℕ → Bool
table_is cs w = same_table (in_words (table principals cs)) (record { word0 = w; word1 = w; word2 = w; word3 = w })

-- a flows to b, and not back
abbrev one_way : Label → Label → Bool
one_way a b = flows a b && not (flows b a)

abbrev same_label : Label → Label → Bool
same_label a b = same_table a.secrecy b.secrecy && same_table a.integrity b.integrity

-- formulas, as lists of clauses
abbrev player : List ℕ
player = 0x01 ∷ []

abbrev dealer : List ℕ
dealer = 0x02 ∷ []

abbrev bench : List ℕ
bench = 0x04 ∷ []

abbrev player_or_dealer : List ℕ
player_or_dealer = 0x03 ∷ []

abbrev player_and_dealer : List ℕ
player_and_dealer = 0x01 ∷ 0x02 ∷ []

abbrev pub label_cases : List Case
label_cases =
    record { number = 1; holds = table_is [] 0xFFFF_FFFF_FFFF_FFFF }
    ∷ record { number = 2; holds = table_is (0x01 ∷ []) 0xAAAA_AAAA_AAAA_AAAA }
    ∷ record { number = 3; holds = table_is (0x03 ∷ []) 0xEEEE_EEEE_EEEE_EEEE }
    ∷ record { number = 4; holds = table_is (0x01 ∷ 0x02 ∷ []) 0x8888_8888_8888_8888 }
    ∷ record { number = 5; holds = table_is (0x00 ∷ []) 0 }
    ∷ record { number = 6; holds = one_way (label player_or_dealer []) (label player []) }
    ∷ record { number = 7; holds = one_way (label [] bench) (label [] []) }
    ∷ record { number = 8; holds = same_label (join (label player []) (label dealer bench)) (label player_and_dealer []) }
    ∷ []
