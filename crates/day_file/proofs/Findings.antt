-- What each function finds is what its check says of the day: the function is given a header and parts of the file.
use mathlib.Core.Bool.{Bool, true, false}
use mathlib.Core.List.{List}
use mathlib.Core.Path.{◌≡◌, sym, ap, ap₂, subst, ◌∙◌}
use Prim.Native.Nat.{ℕ, ◌+◌, ◌-◌, ◌*◌, ◌≤◌, ◌<◌}
use native.Mathlib.Omega.{arith}
use lib.ListN.{length, take, drop}
use lib.Seq.{drop-drop}
use Rattle.labels.specs.declared.Label.{Label}
use Rattle.std.specs.Prelude.{Option, Some, None}
use Rattle.model.specs.FileLabels.{label_in}
use Rattle.code_check.specs.Sweep.{code_ok}
use Rattle.file_sections.specs.Sections.{read_labels, or_none, label_bytes_of, record_bytes_of, labels_over}
use Rattle.file_sections.specs.Checks.{size_within, counts_within, records_ok}
use Rattle.file_sections.specs.Labels.{label_array, labels_found}
use Rattle.file_sections.proofs.Arrays.{not_found, found}
use Rattle.day_file.specs.Sections.{day_header, day_sections, day_labels, day_label, job_from, jobs_from, span}
use Rattle.day_file.specs.Checks.{size_ok, counts_ok, offsets_ok, jobs_ok, span_ok, passes1, passes2, passes3, passes4, passes4_over, passes10, passes10_over, passes6, passes7}
use Rattle.day_file.specs.declared.Header.{Header}
use Rattle.day_file.specs.declared.Job.{Job}
use Rattle.day_file.proofs.Limits.{counted, placed, Fits}
use Rattle.day_file.proofs.Tests.{each_job}
use Rattle.day_file.proofs.Answers.{day-labels, passing-fit}
use Rattle.day_file.proofs.Turns.{all_pass}

-- the parts that the code takes of a file, where the header says
abbrev pub records_in : Header → List ℕ → List ℕ
records_in h bs = take (h.jobs.offset - h.records.offset) (drop h.records.offset bs)

abbrev pub span_in : Header → List ℕ → Job → List ℕ
span_in h bs j = take (h.code.offset + j.start + j.length - (h.code.offset + j.start)) (drop (h.code.offset + j.start) bs)

-- a job's span lies in the file, and is no longer than code may be
pub record Inside (bs : List ℕ) (h : Header) (j : Job) : Type 0 where
  pub ends : h.code.offset + j.start + j.length ≤ length bs
  pub short : j.length ≤ 4096

module _ (bs : List ℕ) where
  pub finds1 : {b : Bool} → size_within 20 (length bs) ≡ b → passes1 bs ≡ b
  unfolding passes1 size_ok
  finds1 e = e

  module _ (h : Header) (is : h ≡ day_header bs) where
    pub counts_found : {b : Bool} → counts_within h.labels h.records h.code ≡ b → counts_ok h ≡ b
    unfolding counts_ok
    counts_found e = e

    pub finds2 : {b : Bool} → counts_within h.labels h.records h.code ≡ b → passes2 bs ≡ b
    unfolding passes2
    finds2 e = ap counts_ok (sym is) ∙ counts_found e

    pub finds3 : {b : Bool} → offsets_ok h (length bs) ≡ b → passes3 bs ≡ b
    unfolding passes3
    finds3 e = ap (λ (g : Header). offsets_ok g (length bs)) (sym is) ∙ e

    pub day_table : (o : Option (List Label)) → o ≡ labels_found (read_labels h.labels.count (take (h.records.offset - 20) (drop 20 bs))) → o ≡ labels_found (day_labels bs)
    unfolding labels_over label_bytes_of
    day_table o e = e ∙ ap (λ (g : Header). labels_found (read_labels g.labels.count (take (g.records.offset - 20) (drop 20 bs)))) is

    pub records-in : h.jobs.offset ≡ h.records.offset + 6 * h.records.count → records_in h bs ≡ record_bytes_of (day_sections bs) bs
    unfolding record_bytes_of
    records-in e =
        let count : h.jobs.offset - h.records.offset ≡ 6 * h.records.count = omega arith in
        ap (λ (n : ℕ). take n (drop h.records.offset bs)) count
        ∙ ap (λ (g : Header). take (6 * g.records.count) (drop g.records.offset bs)) is

    pub finds6 : {b : Bool} → h.jobs.offset ≡ h.records.offset + 6 * h.records.count
        → records_ok h.labels.count (records_in h bs) h.records.count 0 ≡ b → passes6 bs ≡ b
    unfolding passes6
    finds6 e r =
        ap₂ (λ (g : Header) (rs : List ℕ). records_ok g.labels.count rs g.records.count 0) (sym is) (sym (records-in e)) ∙ r

    pub span-in : (j : Job) → span_in h bs j ≡ span bs j
    unfolding span
    span-in j =
        let size : h.code.offset + j.start + j.length - (h.code.offset + j.start) ≡ j.length = omega arith in
        ap₂ (λ (n : ℕ) (xs : List ℕ). take n xs) size (sym (drop-drop j.start h.code.offset bs))
        ∙ ap (λ (g : Header). take j.length (drop j.start (drop g.code.offset bs))) is

    -- check 7: of one job, and of all
    pub finds_span : (j : Job) {b : Bool} → code_ok h.labels.count h.records.count (span_in h bs j) ≡ b → span_ok bs j ≡ b
    unfolding span_ok
    finds_span j r = ap₂ (λ (g : Header) (code : List ℕ). code_ok g.labels.count g.records.count code) (sym is) (sym (span-in j)) ∙ r

    pub finds7 : {b : Bool} → all_pass (span_ok bs) bs h.jobs.count h.jobs.offset ≡ b → passes7 bs ≡ b
    unfolding passes7
    finds7 r = ap (λ (g : Header). all_pass (span_ok bs) bs g.jobs.count g.jobs.offset) (sym is) ∙ r

    -- where checks 2, 3 and 10 pass, the span of job k lies in the file
    pub span_inside : passes2 bs ≡ true → passes3 bs ≡ true → passes10 bs ≡ true → (k : ℕ) → k < h.jobs.count → Inside bs h (job_from bs (h.jobs.offset + 12 * k))
    unfolding passes2 passes3
    span_inside e2 e3 e10 k =
        subst (λ (g : Header). k < g.jobs.count → Inside bs g (job_from bs (g.jobs.offset + 12 * k))) (sym is) (λ small.
        let f = each_job (Fits (day_header bs) (day_label bs)) bs _ _ k small (passing-fit bs e10) in
        let c = counted (day_header bs) e2 in
        let p = placed (day_header bs) (length bs) e3 in
        record { ends = omega (arith, f.inside, p.whole); short = omega (arith, f.inside, c.code) })

  pub finds-none : None ≡ labels_found (day_labels bs) → passes4 bs ≡ false
  unfolding passes4_over
  finds-none e = not_found (day_labels bs) e

  module _ (ls : List Label) (is : Some ls ≡ labels_found (day_labels bs)) where
    pub finds4 : passes4 bs ≡ true
    unfolding passes4_over
    finds4 = (found (day_labels bs) is).0

    pub labels_are : ls ≡ label_array (or_none (day_labels bs))
    labels_are = (found (day_labels bs) is).1

    pub finds10 : (h : Header) → h ≡ day_header bs → {b : Bool}
        → jobs_ok h (label_in ls) (jobs_from bs h.jobs.count h.jobs.offset) ≡ b → passes10 bs ≡ b
    unfolding passes10_over
    finds10 h same r =
        let at : day_label bs ≡ label_in ls = sym (ap label_in labels_are ∙ day-labels bs) in
        ap₂ (λ (g : Header) (f : ℕ → Label). jobs_ok g f (jobs_from bs g.jobs.count g.jobs.offset)) (sym same) at ∙ r
