-- Stopped by the file: the checks of a day, in the order 1 2 3 4 10 6 7. Each is a test of the whole file that has an
-- answer whatever the others find.
use Rattle.std.specs.Prelude.{Bool, cond, List, [], ◌∷◌, map, ℕ, ◌+◌, ◌*◌, leb, ltb, eqb, length}
use Rattle.labels.specs.Tables.{principals}
use Rattle.labels.specs.Order.{flows}
use Rattle.labels.specs.declared.Label.{Label}
use Rattle.file_sections.specs.Checks.{every, size_within, counts_within, labels_pass, records_pass}
use Rattle.code_check.specs.Sweep.{code_ok}
use Rattle.day_file.specs.Sections.{day_header, day_sections, day_label_over, jobs_of_day, span}
use Rattle.day_file.specs.declared.Header.{Header}
use Rattle.day_file.specs.declared.Job.{Job}

-- 1: "under 20 or over 65,535"
unfoldable pub size_ok : ℕ → Bool
size_ok n = size_within 20 n

-- 2: a count outside its limits, which are those of a plain file. The number of jobs is left to 10, and the day's steps
-- are any 32-bit number.
unfoldable pub counts_ok : Header → Bool
counts_ok h = counts_within h.labels h.records h.code

-- 3: the sections follow each other from byte 20 to the file's end. The sums are exact, not modulo 2 ^ 16.
unfoldable pub offsets_ok : Header → ℕ → Bool
offsets_ok h n =
    every
    (eqb h.labels.offset 20 ∷ leb 20 h.records.offset
    ∷ eqb h.jobs.offset (h.records.offset + 6 * h.records.count)
    ∷ eqb h.code.offset (h.jobs.offset + 12 * h.jobs.count) ∷ eqb n (h.code.offset + h.code.count) ∷ [])

-- 10: "a job's field outside its limits (label indices below L, zero byte 0, steps and places as in the plain file, a code
-- span of at least one byte inside the code) or its start label not flowing to its clearance"
unfoldable pub job_ok : Header → (ℕ → Label) → Job → Bool
job_ok h ls j =
    every
    (leb j.caller 15 ∷ ltb j.label h.labels.count ∷ ltb j.clearance h.labels.count ∷ eqb j.zero 0
    ∷ leb 1 j.steps ∷ leb h.records.count j.places ∷ leb j.places 256
    ∷ leb 1 j.length ∷ leb (j.start + j.length) h.code.count
    ∷ flows (ls j.label) (ls j.clearance) ∷ [])

-- 10: "J outside 1 to 16", or a job as above
unfoldable pub jobs_ok : Header → (ℕ → Label) → List Job → Bool
jobs_ok h ls js = every (leb 1 h.jobs.count ∷ leb h.jobs.count 16 ∷ every (map (job_ok h ls) js) ∷ [])

-- 7: "check 7 is made on each job's span by itself", as if it were a plain file's code
unfoldable pub span_ok : List ℕ → Job → Bool
span_ok bs j = code_ok (day_header bs).labels.count (day_header bs).records.count (span bs j)

-- what each check finds in a day: true where it does not apply. 4 and 10 read labels over n principals.
unfoldable pub passes1 : List ℕ → Bool
passes1 bs = size_ok (length bs)

unfoldable pub passes2 : List ℕ → Bool
passes2 bs = counts_ok (day_header bs)

unfoldable pub passes3 : List ℕ → Bool
passes3 bs = offsets_ok (day_header bs) (length bs)

unfoldable pub passes4_over : ℕ → List ℕ → Bool
passes4_over n bs = labels_pass n (day_sections bs) bs

unfoldable pub passes10_over : ℕ → List ℕ → Bool
passes10_over n bs = jobs_ok (day_header bs) (day_label_over n bs) (jobs_of_day bs)

unfoldable pub passes6 : List ℕ → Bool
passes6 bs = records_pass (day_sections bs) bs

unfoldable pub passes7 : List ℕ → Bool
passes7 bs = every (map (span_ok bs) (jobs_of_day bs))

-- a check that does not pass gives its number, one that passes leaves those behind it
abbrev pub check : ℕ → Bool → ℕ → ℕ
check n t behind = cond t behind n

-- "10, in place of 5 and tried where 5 was, before 6": the number of the first check in this order that stops the day; 0
-- where none does
unfoldable pub day_refusal_over : ℕ → List ℕ → ℕ
day_refusal_over n bs =
    check 1 (passes1 bs)
    (check 2 (passes2 bs)
    (check 3 (passes3 bs)
    (check 4 (passes4_over n bs)
    (check 10 (passes10_over n bs)
    (check 6 (passes6 bs)
    (check 7 (passes7 bs) 0))))))

-- over the principals that there are
abbrev pub passes4 : List ℕ → Bool
passes4 = passes4_over principals

abbrev pub passes10 : List ℕ → Bool
passes10 = passes10_over principals

abbrev pub day_refusal : List ℕ → ℕ
day_refusal = day_refusal_over principals
