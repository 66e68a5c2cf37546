-- What a run from the start of its code is charged: its instructions, one by one, within its steps and its places.
use mathlib.Core.Path.{◌≡◌}
use Prim.Native.Nat.{◌+◌, ◌-◌, ◌≤◌}
use native.Mathlib.Omega.{arith}
use lib.ListN.{length}
use mathlib.Core.List.{List}
use Rattle.model.specs.State.{Store, Program}
use Rattle.model.specs.declared.Account.{Account}
use Rattle.model.specs.declared.Ending.TheVariants.{Spent}
use Rattle.model.specs.Running.{runs, start_control}
use Rattle.model.proofs.Costs.{Cost}
use Rattle.model.proofs.Bounds.{runs_within, steps_of, places_of, payments, runs_used, payments_least}
use Rattle.model.proofs.Spending.{spent_left}

module _ (P : Program) (a : Account) (σ : Store) where
  -- what the run pays for its instructions, one by one
  abbrev pub paid : List Cost
  paid = payments P a.steps start_control a σ

  abbrev left : Account
  left = (runs P start_control a σ).account

  -- A run ends in a result, a fault or spent steps: `Ending` has no other case.
  pub record Charged : Type 0 where
    -- The steps used are those given less those left, and were paid one by one, an instruction 1 at least. They are within
    -- those given, and all of them where the run ended spent.
    pub steps_used : a.steps - left.steps ≡ steps_of paid
    pub steps_each : length paid ≤ steps_of paid
    pub steps_within : steps_of paid ≤ a.steps
    pub steps_spent : (runs P start_control a σ).ending ≡ Spent → steps_of paid ≡ a.steps
    -- The next place is behind the one that the run started with and the places taken, one by one, within the limit.
    pub places_taken : left.next ≡ a.next + places_of paid
    pub places_within : left.next ≤ a.limit

  pub charged : a.next ≤ a.limit → Charged
  charged fit =
      let w = runs_used P start_control a σ in
      record {
        steps_used = omega (arith, w.steps);
        steps_each = payments_least P a.steps start_control a σ;
        steps_within = omega (arith, w.steps);
        steps_spent = λ s. omega (arith, w.steps, spent_left P start_control a σ s);
        places_taken = w.next;
        places_within = (runs_within P start_control a σ fit).allotted;
      }
