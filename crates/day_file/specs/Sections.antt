-- Request T-01: "A day file has ten 16-bit header numbers: L and offset, C and offset, jobs J and offset, code length and
-- offset, and the day's steps as a 32-bit number in the last two. Sections follow in this order without gaps, labels at 20."
use Rattle.std.specs.Prelude.{List, [], ◌∷◌, ℕ, zero, suc, ◌+◌, take, drop, Option}
use Rattle.labels.specs.Tables.{principals}
use Rattle.labels.specs.declared.Label.{Label}
use Rattle.model.specs.Decoding.{byte, u16, u32}
use Rattle.model.specs.Inputs.{Input}
use Rattle.file_sections.specs.Sections.{Sections, section, labels_of, label_of_over, inputs_over}
use Rattle.day_file.specs.declared.Header.{Header}
use Rattle.day_file.specs.declared.Job.{Job}

unfoldable pub day_header : List ℕ → Header
day_header bs =
    record { labels = section bs 0; records = section bs 4; jobs = section bs 8; code = section bs 12; steps = u32 bs 16 }

abbrev pub day_sections : List ℕ → Sections
day_sections bs = record { first = 20; labels = (day_header bs).labels.count; records = (day_header bs).records }

abbrev pub day_labels : List ℕ → Option (List Label)
day_labels bs = labels_of (day_sections bs) bs

-- label i of a day, as of a plain file, over n principals and over those that there are
abbrev pub day_label_over : ℕ → List ℕ → ℕ → Label
day_label_over n bs i = label_of_over n (day_sections bs) bs i

abbrev pub day_label : List ℕ → ℕ → Label
day_label = day_label_over principals

abbrev pub day_inputs_over : ℕ → List ℕ → List Input
day_inputs_over n bs = inputs_over n (day_sections bs) bs

abbrev pub day_inputs : List ℕ → List Input
day_inputs = day_inputs_over principals

-- ── jobs ──

-- "A job is 12 bytes: caller (0 to 15), start label, clearance, a zero byte (one byte each), steps, places, code start
-- (from the code section's first byte), code length (two each)." The job whose bytes start at i.
unfoldable pub job_from : List ℕ → ℕ → Job
job_from bs i =
    record {
      caller = byte bs i;
      label = byte bs (i + 1);
      clearance = byte bs (i + 2);
      zero = byte bs (i + 3);
      steps = u16 bs (i + 4);
      places = u16 bs (i + 6);
      start = u16 bs (i + 8);
      length = u16 bs (i + 10);
    }

-- n jobs from byte i on
unfoldable pub jobs_from : List ℕ → ℕ → ℕ → List Job
jobs_from bs zero i = []
jobs_from bs (suc n) i = job_from bs i ∷ jobs_from bs n (i + 12)

abbrev pub jobs_of_day : List ℕ → List Job
jobs_of_day bs = jobs_from bs (day_header bs).jobs.count (day_header bs).jobs.offset

-- the code of a job: its span of the code section
unfoldable pub span : List ℕ → Job → List ℕ
span bs j = take j.length (drop j.start (drop (day_header bs).code.offset bs))
