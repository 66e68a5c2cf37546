-- What a header that passes checks 2 and 3, and a job that passes check 10, say of their numbers.
use mathlib.Core.Bool.{true}
use mathlib.Core.Path.{◌≡◌}
use Prim.Native.Nat.{ℕ, ◌+◌, ◌*◌, ◌≤◌, ◌<◌}
use borrow.Author.Tests.{leb-true, ltb-true, eqb-true}
use Rattle.labels.specs.Order.{flows}
use Rattle.labels.specs.declared.Label.{Label}
use Rattle.file_sections.proofs.Tests.{every_each}
use Rattle.day_file.specs.Checks.{counts_ok, offsets_ok, job_ok}
use Rattle.day_file.specs.declared.Header.{Header}
use Rattle.day_file.specs.declared.Job.{Job}

pub record Counted (h : Header) : Type 0 where
  pub two_labels : 2 ≤ h.labels.count
  pub labels : h.labels.count ≤ 32
  pub records : h.records.count ≤ 64
  pub some_code : 1 ≤ h.code.count
  pub code : h.code.count ≤ 4096

pub counted : (h : Header) → counts_ok h ≡ true → Counted h
unfolding counts_ok
counted h e =
    let p = every_each _ e in
    record {
      two_labels = leb-true _ _ p.0;
      labels = leb-true _ _ p.1.0;
      records = leb-true _ _ p.1.1.0;
      some_code = leb-true _ _ p.1.1.1.0;
      code = leb-true _ _ p.1.1.1.1.0;
    }

pub record Placed (h : Header) (n : ℕ) : Type 0 where
  pub records : 20 ≤ h.records.offset
  pub jobs : h.jobs.offset ≡ h.records.offset + 6 * h.records.count
  pub code : h.code.offset ≡ h.jobs.offset + 12 * h.jobs.count
  pub whole : n ≡ h.code.offset + h.code.count

pub placed : (h : Header) (n : ℕ) → offsets_ok h n ≡ true → Placed h n
unfolding offsets_ok
placed h n e =
    let p = every_each _ e in
    record {
      records = leb-true _ _ p.1.0;
      jobs = eqb-true _ _ p.1.1.0;
      code = eqb-true _ _ p.1.1.1.0;
      whole = eqb-true _ _ p.1.1.1.1.0;
    }

pub record Fits (h : Header) (ls : ℕ → Label) (j : Job) : Type 0 where
  pub caller : j.caller ≤ 15
  pub label : j.label < h.labels.count
  pub clearance : j.clearance < h.labels.count
  pub zero : j.zero ≡ 0
  pub some_steps : 1 ≤ j.steps
  pub inputs_fit : h.records.count ≤ j.places
  pub places : j.places ≤ 256
  pub some_code : 1 ≤ j.length
  pub inside : j.start + j.length ≤ h.code.count
  pub starts : flows (ls j.label) (ls j.clearance) ≡ true

pub fits : (h : Header) (ls : ℕ → Label) (j : Job) → job_ok h ls j ≡ true → Fits h ls j
unfolding job_ok
fits h ls j e =
    let p = every_each _ e in
    let q = p.1.1.1.1.1 in
    record {
      caller = leb-true _ _ p.0;
      label = ltb-true _ _ p.1.0;
      clearance = ltb-true _ _ p.1.1.0;
      zero = eqb-true _ _ p.1.1.1.0;
      some_steps = leb-true _ _ p.1.1.1.1.0;
      inputs_fit = leb-true _ _ q.0;
      places = leb-true _ _ q.1.0;
      some_code = leb-true _ _ q.1.1.0;
      inside = leb-true _ _ q.1.1.1.0;
      starts = q.1.1.1.1.0;
    }
