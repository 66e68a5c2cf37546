-- Two alike days that none of 1 to 4, 6 and 8 stops: one header, the same labels, jobs and spans, and alike input records.
use mathlib.Core.Bool.{true}
use mathlib.Core.List.{List, [], ◌∷◌}
use mathlib.Core.Path.{◌≡◌, refl, ap, ap₂, ◌∙◌, subst}
use Prim.Native.Nat.{ℕ, zero, suc, ◌+◌, ◌≤◌, ◌<◌}
use native.Mathlib.Omega.{arith}
use lib.Dec.{ltb, lit<}
use lib.ListN.{length, take, drop}
use Rattle.labels.specs.Order.{flows}
use Rattle.model.specs.Decoding.{byte, u16, u32}
use Rattle.model.proofs.Start.{AlikeInputs}
use Rattle.file_sections.specs.Sections.{Sections, label_of, labels_of, inputs_of}
use Rattle.file_sections.proofs.Tests.{Each, every_each}
use Rattle.day_file.specs.declared.Header.{Header}
use Rattle.day_file.specs.declared.Job.{Job}
use Rattle.day_file.specs.Sections.{day_header, day_sections, day_labels, day_label, day_inputs, job_from, jobs_from, jobs_of_day, span}
use Rattle.day_file.specs.Checks.{passes1, passes2, passes3, passes4, passes6}
use Rattle.day_file.proofs.Limits.{Placed, placed}
use Rattle.noninterference.specs.Alike.{Hidden}
use Rattle.noninterference.proofs.Sections.{same_drop, before_records, behind_records, same_labels, same_label, alike_inputs, same_but_hidden, alike_by_sym}
use Rattle.day_noninterference.specs.Alike.{day_legible, DayAlike}

-- none of 1 to 4, 6 and 8 stops the day
pub day_legible_each : (bs : List ℕ) (i : ℕ) → day_legible bs i ≡ true
    → Each (passes1 bs ∷ passes2 bs ∷ passes3 bs ∷ passes4 bs ∷ passes6 bs ∷ ltb i (day_header bs).labels.count ∷ [])
unfolding day_legible
day_legible_each bs i e = every_each _ e

-- jobs from a byte on from which all bytes are the same
module _ (bs cs : List ℕ) (m : ℕ) (same : (p : ℕ) → m ≤ p → byte bs p ≡ byte cs p) where
  same_job : (i : ℕ) → m ≤ i → job_from bs i ≡ job_from cs i
  unfolding job_from u16
  same_job i le =
      cc (
        same i le,
        same (i + 1) (omega arith),
        same (i + 2) (omega arith),
        same (i + 3) (omega arith),
        same (i + 4) (omega arith),
        same (i + 4 + 1) (omega arith),
        same (i + 6) (omega arith),
        same (i + 6 + 1) (omega arith),
        same (i + 8) (omega arith),
        same (i + 8 + 1) (omega arith),
        same (i + 10) (omega arith),
        same (i + 10 + 1) (omega arith),
      )

  same_jobs_from : (n i : ℕ) → m ≤ i → jobs_from bs n i ≡ jobs_from cs n i
  unfolding jobs_from
  same_jobs_from zero i le = refl
  same_jobs_from (suc n) i le = ap₂ (λ (j : Job) (js : List Job). j ∷ js) (same_job i le) (same_jobs_from n (i + 12) (omega arith))

module _ (bs cs : List ℕ) (i : ℕ) (A : DayAlike bs cs i) (lb : day_legible bs i ≡ true) (lc : day_legible cs i ≡ true) where
  same_byte : (p : ℕ) → ¬ Hidden (day_sections bs) bs i p → byte bs p ≡ byte cs p
  same_byte = same_but_hidden day_legible day_sections bs cs i A lb lc

  in_order : Placed (day_header bs) (length bs)
  unfolding passes3
  in_order = placed (day_header bs) (length bs) (day_legible_each bs i lb).1.1.0

  head : (p : ℕ) → p < 20 → byte bs p ≡ byte cs p
  head p lt = before_records bs cs (day_sections bs) i A.sized same_byte in_order.records p (omega (arith, in_order.records))

  behind : (p : ℕ) → (day_header bs).jobs.offset ≤ p → byte bs p ≡ byte cs p
  behind p le = behind_records bs cs (day_sections bs) i A.sized same_byte in_order.records p (omega (arith, in_order.jobs))

  pub same_header : day_header bs ≡ day_header cs
  unfolding day_header u32 u16
  same_header =
      cc (
        head 0 (lit< tt),
        head 1 (lit< tt),
        head 2 (lit< tt),
        head 3 (lit< tt),
        head 4 (lit< tt),
        head 5 (lit< tt),
        head 6 (lit< tt),
        head 7 (lit< tt),
        head 8 (lit< tt),
        head 9 (lit< tt),
        head 10 (lit< tt),
        head 11 (lit< tt),
        head 12 (lit< tt),
        head 13 (lit< tt),
        head 14 (lit< tt),
        head 15 (lit< tt),
        head 16 (lit< tt),
        head 17 (lit< tt),
        head 18 (lit< tt),
        head 19 (lit< tt),
      )

  same_sections : day_sections bs ≡ day_sections cs
  same_sections = ap (λ (h : Header). record { first = 20; labels = h.labels.count; records = h.records }) same_header

  pub same_day_labels : day_labels bs ≡ day_labels cs
  same_day_labels =
      same_labels bs cs (day_sections bs) i A.sized same_byte in_order.records ∙ ap (λ (s : Sections). labels_of s cs) same_sections

  pub same_day_label : day_label bs ≡ day_label cs
  same_day_label =
      same_label bs cs (day_sections bs) i A.sized same_byte in_order.records ∙ ap (λ (s : Sections). label_of s cs) same_sections

  pub alike_day_inputs : AlikeInputs (λ l. flows l (day_label bs i)) (day_inputs bs) (day_inputs cs)
  alike_day_inputs =
      subst (λ (s : Sections). AlikeInputs (λ l. flows l (day_label bs i)) (day_inputs bs) (inputs_of s cs)) same_sections
      (alike_inputs bs cs (day_sections bs) i A.sized same_byte in_order.records)

  -- jobs and code lie behind the records
  pub same_jobs : jobs_of_day bs ≡ jobs_of_day cs
  same_jobs =
      same_jobs_from bs cs (day_header bs).jobs.offset behind (day_header bs).jobs.count (day_header bs).jobs.offset (omega arith)
      ∙ ap (λ (h : Header). jobs_from cs h.jobs.count h.jobs.offset) same_header

  same_code : drop (day_header bs).code.offset bs ≡ drop (day_header cs).code.offset cs
  same_code =
      same_drop bs cs A.sized (day_header bs).code.offset (λ p le. behind p (omega (arith, in_order.code)))
      ∙ ap (λ (h : Header). drop h.code.offset cs) same_header

  pub same_span : span bs ≡ span cs
  unfolding span
  same_span = ap {B = Job → List ℕ} (λ (code : List ℕ) (j : Job). take j.length (drop j.start code)) same_code

pub day_alike_sym : (bs cs : List ℕ) (i : ℕ) → DayAlike bs cs i → DayAlike cs bs i
day_alike_sym bs cs i A = alike_by_sym day_legible day_sections bs cs i A (λ lb lc. ((in_order bs cs i A lb lc).records, same_sections bs cs i A lb lc))
