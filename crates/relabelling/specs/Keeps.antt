-- When a map of labels keeps an order of labels, and a program. Two labels may become one: only their order is kept.
use Rattle.std.specs.Prelude.{List, map, ◌≡◌, ℕ}
use Rattle.labels.specs.declared.Label.{Label}
use Rattle.model.specs.State.{Program}
use Rattle.model.specs.Decoding.{fetch, after}
use Rattle.model.specs.Inputs.{Input, handles}
use Rattle.relabelling.specs.Relabelled.{value_under}

-- an order of labels, of any kind: no law is asked of it
pub record Order : Type 0 where
  pub flow_test : Label → Label → ℕ
  pub join : Label → Label → Label
  pub meet : Label → Label → Label

-- the order that a program is run under
abbrev pub order_of : Program → Order
order_of P = record { flow_test = P.flow_test; join = P.join; meet = P.meet }

-- from order o to order q, h keeps the flow test's answers (0, or which half fails: faults tell it), join and meet
pub record KeepsOrder (h : Label → Label) (o q : Order) : Type 0 where
  pub keeps_flow : (a b : Label) → q.flow_test (h a) (h b) ≡ o.flow_test a b
  pub keeps_join : (a b : Label) → q.join (h a) (h b) ≡ h (o.join a b)
  pub keeps_meet : (a b : Label) → q.meet (h a) (h b) ≡ h (o.meet a b)

-- program Q is program P under h: the same code, with P's labels and handles under h
pub record Keeps (h : Label → Label) (P Q : Program) : Type 0 where
  pub order : KeepsOrder h (order_of P) (order_of Q)
  pub same_fetch : (pc : ℕ) → Q.fetch pc ≡ P.fetch pc
  pub same_after : (pc : ℕ) → Q.after pc ≡ P.after pc
  pub mapped_labels : (i : ℕ) → Q.labels i ≡ h (P.labels i)
  pub mapped_inputs : Q.inputs ≡ map (value_under h) P.inputs

-- a file's program as `program_of` makes it, under any order
abbrev pub program_in : Order → List ℕ → (ℕ → Label) → List Input → Program
program_in o code ls xs =
    record { flow_test = o.flow_test; join = o.join; meet = o.meet; fetch = fetch code; after = after code; labels = ls; inputs = handles 0 xs }
