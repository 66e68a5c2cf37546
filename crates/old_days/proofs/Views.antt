-- The views of a day are what they show, laid out; and turns under a map of labels show the contents under that map.
use mathlib.Core.Bool.{Bool}
use mathlib.Core.List.{List, [], ◌∷◌, ◌++◌, map}
use mathlib.Core.Path.{◌≡◌, refl, ap, ap₂}
use Prim.Native.Nat.{ℕ}
use Rattle.labels.specs.declared.Label.{Label}
use Rattle.old_files.proofs.Views.{view_laid_out, contents-under, outcome_twice, contents_twice}
use Rattle.day_jobs.specs.Running.{Turn, skipped, ran}
use Rattle.day.specs.Views.{turn_view_over, each_turn}
use Rattle.old_days.specs.Contents.{JobContents, was_skipped, shows, turn_contents, job_layout, day_layout, turn_under, job_contents_under}

module _ (n : ℕ) (Reads : Label → Bool) where
  turn_laid_out : (t : Turn) → turn_view_over n Reads t ≡ job_layout n (turn_contents Reads t)
  unfolding turn_view_over
  turn_laid_out skipped = refl
  turn_laid_out (ran s o) = view_laid_out n Reads s o

  pub turns_laid_out : (ts : List Turn) → each_turn (turn_view_over n Reads) ts ≡ day_layout n (map (turn_contents Reads) ts)
  unfolding each_turn day_layout
  turns_laid_out [] = refl
  turns_laid_out (t ∷ ts) = ap₂ (λ (v w : List ℕ). v ++ w) (turn_laid_out t) (turns_laid_out ts)

-- ── under a map ──

module _ (h : Label → Label) (Sees Seen : Label → Bool) (e : (l : Label) → Seen (h l) ≡ Sees l) where
  turn-contents : (t : Turn) → turn_contents Seen (turn_under h t) ≡ job_contents_under h (turn_contents Sees t)
  turn-contents skipped = refl
  turn-contents (ran s o) = ap shows (contents-under h Sees Seen e s o)

  pub turns_contents : (ts : List Turn) → map (turn_contents Seen) (map (turn_under h) ts) ≡ map (job_contents_under h) (map (turn_contents Sees) ts)
  turns_contents [] = refl
  turns_contents (t ∷ ts) = ap₂ (λ (c : JobContents) (cs : List JobContents). c ∷ cs) (turn-contents t) (turns_contents ts)

-- ── under two maps, one behind the other ──

module _ (g h : Label → Label) where
  turn_twice : (t : Turn) → turn_under h (turn_under g t) ≡ turn_under (λ l. h (g l)) t
  turn_twice skipped = refl
  turn_twice (ran s o) = ap (ran s) (outcome_twice g h o)

  pub turns_twice : (ts : List Turn) → map (turn_under h) (map (turn_under g) ts) ≡ map (turn_under (λ l. h (g l))) ts
  turns_twice [] = refl
  turns_twice (t ∷ ts) = ap₂ (λ (u : Turn) (us : List Turn). u ∷ us) (turn_twice t) (turns_twice ts)

  job_twice : (c : JobContents) → job_contents_under h (job_contents_under g c) ≡ job_contents_under (λ l. h (g l)) c
  job_twice was_skipped = refl
  job_twice (shows c) = ap shows (contents_twice g h c)

  pub jobs_twice : (cs : List JobContents) → map (job_contents_under h) (map (job_contents_under g) cs) ≡ map (job_contents_under (λ l. h (g l))) cs
  jobs_twice [] = refl
  jobs_twice (c ∷ cs) = ap₂ (λ (d : JobContents) (ds : List JobContents). d ∷ ds) (job_twice c) (jobs_twice cs)
