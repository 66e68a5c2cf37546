-- What a view shows, apart from how wide it is: its contents; and the view as its contents laid out over n principals.
use Rattle.std.specs.Prelude.{Bool, cond, List, [], ◌∷◌, ◌++◌, map, ℕ, suc, ◌+◌, ◌-◌, ◌*◌, length, replicate, None, Some}
use Rattle.labels.specs.Order.{flows}
use Rattle.labels.specs.declared.Label.{Label}
use Rattle.model.specs.State.{Store, Outcome, shown, Slot}
use Rattle.model.specs.declared.Account.{Account}
use Rattle.model.specs.declared.Record.{Record}
use Rattle.model.specs.declared.Ending.{Ending}
use Rattle.relabelling.specs.Relabelled.{record_under, account_under, ending_under}
use Rattle.script_file.specs.Sections.{header, label_at_over}
use Rattle.script_file.specs.Program.{file_run_over}
use Rattle.view_fields.specs.Fields.{record_width, little_endian, label_field, ending_number, result_field, record_field}
use Rattle.view.specs.Layout.{final_width, start_over}

-- a record that is shown, and its place
pub record Placed : Type 0 where
  pub place : ℕ
  pub holds : Record

pub record Contents : Type 0 where
  -- whether the final label flows to the reader
  pub seen : Bool
  -- declared
  pub steps : ℕ
  pub ending : Ending
  pub account : Account
  -- by rising place
  pub records : List Placed

-- ── what a view is of ──

abbrev pub placed_if : ℕ → Slot → List Placed → List Placed
placed_if p None rs = rs
placed_if p (Some r) rs = record { place = p; holds = r } ∷ rs

-- the records of a store that are shown, the first being at place p
unfoldable pub records_seen : (Label → Bool) → ℕ → Store → List Placed
records_seen Reads p [] = []
records_seen Reads p (x ∷ σ) = placed_if p (shown Reads x) (records_seen Reads (suc p) σ)

abbrev pub contents_of : (Label → Bool) → ℕ → Outcome → Contents
contents_of Reads s o =
    record { seen = Reads o.account.label; steps = s; ending = o.ending; account = o.account; records = records_seen Reads 0 o.store }

-- of a file's view for the label with index i, over n principals
abbrev pub file_contents : ℕ → List ℕ → ℕ → Contents
file_contents n bs i = contents_of (λ l. flows l (label_at_over n bs i)) (header bs).steps (file_run_over n bs)

-- ── how it is laid out ──

unfoldable pub placed_fields : ℕ → List Placed → List ℕ
placed_fields n [] = []
placed_fields n (r ∷ rs) = record_field n r.place r.holds ++ placed_fields n rs

-- over n principals
unfoldable pub layout : ℕ → Contents → List ℕ
layout n c =
    cond c.seen
    (little_endian 2 (ending_number c.ending) ++ little_endian 2 (c.steps - c.account.steps) ++ little_endian 2 c.account.next)
    (replicate 6 0)
    ++ little_endian 2 (length c.records) ++ little_endian 2 (start_over n) ++ little_endian 2 (start_over n + record_width n * length c.records)
    ++ cond c.seen
    (result_field n c.ending ++ label_field n c.account.label ++ label_field n c.account.clearance)
    (replicate (final_width n) 0)
    ++ placed_fields n c.records

-- ── under a map h of labels: endings, counts, places, kinds, numbers and handles are the same, and labels are mapped ──

module _ (h : Label → Label) where
  abbrev pub placed_under : Placed → Placed
  placed_under r = record { place = r.place; holds = record_under h r.holds }

  abbrev pub contents_under : Contents → Contents
  contents_under c =
      record {
        seen = c.seen;
        steps = c.steps;
        ending = ending_under h c.ending;
        account = account_under h c.account;
        records = map placed_under c.records;
      }
