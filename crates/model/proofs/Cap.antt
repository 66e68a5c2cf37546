-- "A clearance caps it": in every state that a run comes to, bodies of blocks included, the label flows to the clearance, and the
-- clearance, as every one kept in a frame, to the clearance that the run started with.
use mathlib.Core.Bool.{true}
use mathlib.Core.List.{List, [], ◌∷◌}
use mathlib.Core.Path.{◌≡◌, sym, subst}
use Prim.Native.Nat.{ℕ}
use Rattle.labels.specs.declared.Label.{Label}
use Rattle.model.specs.State.{Control, Store, Program, flows_in}
use Rattle.model.specs.declared.Account.{Account}
use Rattle.model.specs.declared.Frame.{Frame}
use Rattle.model.specs.Running.{runs}
use Rattle.model.proofs.Landing.{Lands, Keeps, anywhere, lands_anywhere}
use Rattle.model.proofs.Reached.{Reached, reached_lands, runs_ends}

-- ── the statement ──

-- All that is asked of the order. Nothing is asked of its join: RAISE, OPEN and READ test the raised label itself.
pub record Preorder (P : Program) : Type 0 where
  pub reflexive : (l : Label) → flows_in P l l ≡ true
  pub transitive : (k l m : Label) → flows_in P k l ≡ true → flows_in P l m ≡ true → flows_in P k m ≡ true

module _ (P : Program) where
  -- every clearance kept in the frames flows to top
  abbrev pub FramesBelow : Label → List Frame → Type 0
  FramesBelow top [] = Unit {0}
  FramesBelow top (f ∷ fs) = (flows_in P f.clearance top ≡ true) × FramesBelow top fs

  -- of clearance m and the frames, newest first: each clearance flows to the next older one, and the oldest to top. So a
  -- caught fault gives back one to which m flows.
  abbrev pub Rising : Label → Label → List Frame → Type 0
  Rising top m [] = flows_in P m top ≡ true
  Rising top m (f ∷ fs) = (flows_in P m f.clearance ≡ true) × Rising top f.clearance fs

  -- of label l, too
  abbrev Rises : Label → Label → Label → List Frame → Type 0
  Rises top l m fs = (flows_in P l m ≡ true) × Rising top m fs

  -- of a state of a run that started with clearance top
  pub record Capped (top : Label) (c : Control) (a : Account) : Type 0 where
    pub label_below : flows_in P a.label a.clearance ≡ true
    pub clearance_below : flows_in P a.clearance top ≡ true
    pub frames_below : FramesBelow top c.frames
    pub rising : Rising top a.clearance c.frames

-- ── the proof ──

module _ (P : Program) (O : Preorder P) (top : Label) where
  below_top : (m : Label) (fs : List Frame) → Rising P top m fs → flows_in P m top ≡ true
  below_top m [] r = r
  below_top m (f ∷ fs) r = O.transitive m f.clearance top r.0 (below_top f.clearance fs r.1)

  frames_below : (m : Label) (fs : List Frame) → Rising P top m fs → FramesBelow P top fs
  frames_below m [] r = tt
  frames_below m (f ∷ fs) r = (below_top f.clearance fs r.1, frames_below f.clearance fs r.1)

  -- from a lower clearance
  lowered : (k m : Label) (fs : List Frame) → flows_in P k m ≡ true → Rising P top m fs → Rising P top k fs
  lowered k m [] e r = O.transitive k m top e r
  lowered k m (f ∷ fs) e r = (O.transitive k m f.clearance e r.0, r.1)

  rises_keep : Keeps P anywhere (Rises P top)
  rises_keep =
      record {
        tries = λ l m h n fs _ g. (g.0, (O.reflexive m, g.1));
        drops = λ l m f fs g. (g.0, lowered m f.clearance fs g.1.0 g.1.1);
        catches = λ l m f fs g. (tt, (O.transitive l m f.clearance g.0 g.1.0, g.1.1));
        raises_to = λ l m k fs e g. (e, g.1);
        lowers_to = λ l m k fs e f g. (e, lowered k m fs f g.1);
      }

-- A run that starts with no frames, and a label that flows to its clearance. Nothing is assumed of the code.
module _ (P : Program) (O : Preorder P) (c₀ : Control) (a₀ : Account) (σ₀ : Store) (none : c₀.frames ≡ [])
    (starts : flows_in P a₀.label a₀.clearance ≡ true) where
  abbrev top : Label
  top = a₀.clearance

  rises_first : Rises P top a₀.label top c₀.frames
  rises_first = (starts, subst (Rising P top top) (sym none) (O.reflexive top))

  anything : (pc : ℕ) → anywhere pc → Lands anywhere (P.after pc) (P.fetch pc)
  anything pc _ = lands_anywhere (P.after pc) (P.fetch pc)

  -- The cap holds in every state,
  pub cap_holds : (c : Control) (a : Account) (σ : Store) → Reached P c₀ a₀ σ₀ c a σ → Capped P a₀.clearance c a
  cap_holds c a σ h =
      let r = (reached_lands P anywhere (Rises P top) (rises_keep P O top) anything c₀ a₀ σ₀ tt rises_first c a σ h).1 in
      record {
        label_below = r.0;
        clearance_below = below_top P O top a.clearance c.frames r.1;
        frames_below = frames_below P O top a.clearance c.frames r.1;
        rising = r.1;
      }

  -- and at the end.
  pub cap_at_end : (flows_in P (runs P c₀ a₀ σ₀).account.label (runs P c₀ a₀ σ₀).account.clearance ≡ true)
      × (flows_in P (runs P c₀ a₀ σ₀).account.clearance a₀.clearance ≡ true)
  cap_at_end = runs_ends P anywhere (Rises P top) (rises_keep P O top) anything c₀ a₀ σ₀ tt rises_first
