-- The answer and its number.
use mathlib.Core.Bool.{true, false}
use mathlib.Core.List.{List}
use mathlib.Core.Logic.{◌≢◌}
use mathlib.Core.Path.{◌≡◌, fun_ext}
use Prim.Native.Nat.{ℕ, suc, ◌+◌, ◌*◌, ◌≤◌, ◌<◌}
use native.Mathlib.Omega.{arith}
use borrow.Author.Tests.{leb-true}
use lib.Dec.{eqb-suc-zero}
use lib.ListN.{length}
use Rattle.std.specs.Prelude.{Ok, Err}
use Rattle.labels.specs.declared.Label.{Label}
use Rattle.model.specs.FileLabels.{label_in}
use Rattle.file_sections.specs.Sections.{or_none}
use Rattle.file_sections.specs.Labels.{label_array}
use Rattle.file_sections.specs.Refusals.{refusal_number, refusal_of}
use Rattle.file_sections.specs.declared.Refusal.{Refusal}
use Rattle.file_sections.proofs.Tests.{every_each}
use Rattle.file_sections.proofs.Arrays.{array_is_labels}
use Rattle.file_sections.proofs.Refusals.{answered, refused, told, answer-number as told-answer}
use Rattle.day_file.specs.Sections.{day_header, day_sections, day_labels, day_label, jobs_of_day, job_from}
use Rattle.day_file.specs.Checks.{size_ok, passes1, passes2, passes3, passes4, passes10, passes10_over, passes6, passes7, job_ok, jobs_ok, span_ok, check, day_refusal, day_refusal_over}
use Rattle.day_file.specs.Loading.{loaded_day, labels_of_day}
use Rattle.day_file.specs.Parts.{DayLoads}
use Rattle.day_file.specs.declared.Header.{Header}
use Rattle.day_file.proofs.Limits.{Counted, counted, Placed, placed, Fits, fits}
use Rattle.day_file.proofs.Tests.{none_stops, check_most, check_not, AllJobs, all_hold, all_map, each_job}

-- ── the checks in their order ──

module _ (bs : List ℕ) where
  -- what a check and those behind it come to
  abbrev pub from7 : ℕ
  from7 = check 7 (passes7 bs) 0

  abbrev pub from6 : ℕ
  from6 = check 6 (passes6 bs) from7

  abbrev pub from10 : ℕ
  from10 = check 10 (passes10 bs) from6

  abbrev pub from4 : ℕ
  from4 = check 4 (passes4 bs) from10

  abbrev pub from3 : ℕ
  from3 = check 3 (passes3 bs) from4

  abbrev pub from2 : ℕ
  from2 = check 2 (passes2 bs) from3

  pub refusal-most : day_refusal bs ≤ 10
  unfolding day_refusal_over
  refusal-most =
      let m7 : from7 ≤ 10 = check_most 10 7 (passes7 bs) 0 (omega arith) (omega arith) in
      let m6 : from6 ≤ 10 = check_most 10 6 (passes6 bs) from7 (omega arith) m7 in
      let m10 : from10 ≤ 10 = check_most 10 10 (passes10 bs) from6 (omega arith) m6 in
      let m4 : from4 ≤ 10 = check_most 10 4 (passes4 bs) from10 (omega arith) m10 in
      let m3 : from3 ≤ 10 = check_most 10 3 (passes3 bs) from4 (omega arith) m4 in
      let m2 : from2 ≤ 10 = check_most 10 2 (passes2 bs) from3 (omega arith) m3 in
      check_most 10 1 (passes1 bs) from2 (omega arith) m2

  -- 10 is tried in place of 5
  pub refusal-not-5 : day_refusal bs ≢ 5
  unfolding day_refusal_over
  refusal-not-5 =
      let n7 : from7 ≢ 5 = check_not 5 7 (passes7 bs) 0 (λ e. omega arith) (λ e. omega arith) in
      let n6 : from6 ≢ 5 = check_not 5 6 (passes6 bs) from7 (λ e. omega arith) n7 in
      let n10 : from10 ≢ 5 = check_not 5 10 (passes10 bs) from6 (λ e. omega arith) n6 in
      let n4 : from4 ≢ 5 = check_not 5 4 (passes4 bs) from10 (λ e. omega arith) n10 in
      let n3 : from3 ≢ 5 = check_not 5 3 (passes3 bs) from4 (λ e. omega arith) n4 in
      let n2 : from2 ≢ 5 = check_not 5 2 (passes2 bs) from3 (λ e. omega arith) n3 in
      check_not 5 1 (passes1 bs) from2 (λ e. omega arith) n2

-- ── the first check that does not pass stops the day ──

module _ (bs : List ℕ) where
  pub stops1 : passes1 bs ≡ false → day_refusal bs ≡ 1
  unfolding day_refusal_over
  stops1 e = rw e

  module _ (p1 : passes1 bs ≡ true) where
    pub stops2 : passes2 bs ≡ false → day_refusal bs ≡ 2
    unfolding day_refusal_over
    stops2 e = rw (p1, e)

    module _ (p2 : passes2 bs ≡ true) where
      pub stops3 : passes3 bs ≡ false → day_refusal bs ≡ 3
      unfolding day_refusal_over
      stops3 e = rw (p1, p2, e)

      module _ (p3 : passes3 bs ≡ true) where
        pub stops4 : passes4 bs ≡ false → day_refusal bs ≡ 4
        unfolding day_refusal_over
        stops4 e = rw (p1, p2, p3, e)

        module _ (p4 : passes4 bs ≡ true) where
          pub stops10 : passes10 bs ≡ false → day_refusal bs ≡ 10
          unfolding day_refusal_over
          stops10 e = rw (p1, p2, p3, p4, e)

          module _ (p10 : passes10 bs ≡ true) where
            pub stops6 : passes6 bs ≡ false → day_refusal bs ≡ 6
            unfolding day_refusal_over
            stops6 e = rw (p1, p2, p3, p4, p10, e)

            module _ (p6 : passes6 bs ≡ true) where
              pub stops7 : passes7 bs ≡ false → day_refusal bs ≡ 7
              unfolding day_refusal_over
              stops7 e = rw (p1, p2, p3, p4, p10, p6, e)

              pub stops_none : passes7 bs ≡ true → day_refusal bs ≡ 0
              unfolding day_refusal_over
              stops_none e = rw (p1, p2, p3, p4, p10, p6, e)

-- ── what the checks tell ──

module _ (bs : List ℕ) where
  pub passing-few : passes10 bs ≡ true → (1 ≤ (day_header bs).jobs.count) × ((day_header bs).jobs.count ≤ 16)
  unfolding passes10_over jobs_ok
  passing-few e = let p = every_each _ e in (leb-true _ _ p.0, leb-true _ _ p.1.0)

  pub passing-fit : passes10 bs ≡ true → AllJobs (Fits (day_header bs) (day_label bs)) (jobs_of_day bs)
  unfolding passes10_over jobs_ok
  passing-fit e =
      let p = every_each _ e in
      all_map (fits (day_header bs) (day_label bs)) (jobs_of_day bs) (all_hold (job_ok (day_header bs) (day_label bs)) (jobs_of_day bs) p.1.1.0)

-- A day that is not refused passes each check.
pub record Accepted (bs : List ℕ) : Type 0 where
  pub size : passes1 bs ≡ true
  pub counts : passes2 bs ≡ true
  pub offsets : passes3 bs ≡ true
  pub labels : passes4 bs ≡ true
  pub jobs : passes10 bs ≡ true
  pub records : passes6 bs ≡ true
  pub code : passes7 bs ≡ true

module _ (bs : List ℕ) (none : day_refusal bs ≡ 0) where
  pub accepted : Accepted bs
  unfolding day_refusal_over
  accepted =
      let p1 = none_stops 0 (passes1 bs) (from2 bs) none in
      let p2 = none_stops 1 (passes2 bs) (from3 bs) p1.1 in
      let p3 = none_stops 2 (passes3 bs) (from4 bs) p2.1 in
      let p4 = none_stops 3 (passes4 bs) (from10 bs) p3.1 in
      let p10 = none_stops 9 (passes10 bs) (from6 bs) p4.1 in
      let p6 = none_stops 5 (passes6 bs) (from7 bs) p10.1 in
      let p7 = none_stops 6 (passes7 bs) 0 p6.1 in
      record { size = p1.0; counts = p2.0; offsets = p3.0; labels = p4.0; jobs = p10.0; records = p6.0; code = p7.0 }

  pub most_bytes : length bs ≤ 65535
  unfolding passes1 size_ok
  most_bytes = let p = every_each _ accepted.size in leb-true _ _ p.1.0

  -- so its sections lie within it, and its counts within their limits
  pub within-limits : Counted (day_header bs)
  unfolding passes2
  within-limits = counted (day_header bs) accepted.counts

  pub in_place : Placed (day_header bs) (length bs)
  unfolding passes3
  in_place = placed (day_header bs) (length bs) accepted.offsets

  pub few_jobs : (1 ≤ (day_header bs).jobs.count) × ((day_header bs).jobs.count ≤ 16)
  few_jobs = passing-few bs accepted.jobs

  -- and so do the numbers of each job, and its span passes check 7
  pub jobs-fit : AllJobs (Fits (day_header bs) (day_label bs)) (jobs_of_day bs)
  jobs-fit = passing-fit bs accepted.jobs

  pub spans_fit : AllJobs (λ j. span_ok bs j ≡ true) (jobs_of_day bs)
  unfolding passes7
  spans_fit = all_hold (span_ok bs) (jobs_of_day bs) accepted.code

  pub job-fits : (k : ℕ) → k < (day_header bs).jobs.count → Fits (day_header bs) (day_label bs) (job_from bs ((day_header bs).jobs.offset + 12 * k))
  job-fits k small = each_job (Fits (day_header bs) (day_label bs)) bs _ _ k small jobs-fit

  pub span-ok : (k : ℕ) → k < (day_header bs).jobs.count → span_ok bs (job_from bs ((day_header bs).jobs.offset + 12 * k)) ≡ true
  span-ok k small = each_job (λ j. span_ok bs j ≡ true) bs _ _ k small spans_fit

-- the labels of a day, at any index
pub day-labels : (bs : List ℕ) → label_in (label_array (or_none (day_labels bs))) ≡ day_label bs
day-labels bs = fun_ext (array_is_labels (day_sections bs) bs)

-- ── the answer ──

module _ (bs : List ℕ) where
  -- its number is that of the first check that stops the day, one of 1 to 4, 10, 6 and 7
  -- the answer tells the number of the first check that applies, or 0
  pub answer-number : told (loaded_day bs) ≡ day_refusal bs
  unfolding loaded_day
  answer-number = told-answer (day_refusal bs) (day_header bs) (omega (arith, refusal-most bs))

  pub refused-number : (r : Refusal) → Err r ≡ loaded_day bs → (refusal_number r ≡ day_refusal bs) × (1 ≤ refusal_number r) × (refusal_number r ≤ 10)
  unfolding loaded_day
  refused-number r e =
      let most = refusal-most bs in
      let n = refused (day_refusal bs) (day_header bs) (omega arith) e in
      (n.0, omega arith, omega arith)

  -- what the answer of a day that loads, and the labels, tell
  pub day-loads : (h : Header) (ls was : List Label) → Ok h ≡ loaded_day bs → ls ≡ labels_of_day bs was → DayLoads bs h ls
  unfolding loaded_day
  day-loads h ls was e l =
      let n = answered (day_refusal bs) e in
      record { none = n.0; numbers = n.1; labels = rw n.0 at l }

  -- what a refusal, and what a day that loads, promise of the answer and of the labels
  pub refuses : (ls : List Label) (n : ℕ) → day_refusal bs ≡ suc n → (Err (refusal_of (suc n)) ≡ loaded_day bs) × (ls ≡ labels_of_day bs ls)
  unfolding loaded_day
  refuses ls n e = (rw e, rw (e, eqb-suc-zero n))

  pub loads : (ls : List Label) → day_refusal bs ≡ 0 → (Ok (day_header bs) ≡ loaded_day bs) × (label_array (or_none (day_labels bs)) ≡ labels_of_day bs ls)
  unfolding loaded_day
  loads ls e = (rw e, rw e)
