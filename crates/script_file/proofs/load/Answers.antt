-- `script_file::load` meets its contract: each check in turn, by what its function finds.
use mathlib.Core.Bool.{true}
use mathlib.Core.Path.{◌≡◌, sym, ap, ◌∙◌}
use native.Mathlib.Omega.{arith}
use lib.ListN.{length, length-drop}
use borrow.Author.Rules.{part_to_end}
use Rattle.std.specs.Prelude.{Some, Ok}
use Rattle.file_sections.specs.Labels.{labels_found}
use Rattle.script_file.specs.Sections.{file_labels}
use Rattle.script_file.specs.Checks.{passes1, passes2, passes3, passes4, passes5, passes6}
use Rattle.script_file.proofs.Limits.{Counted, Placed, counted, placed}
use Rattle.script_file.proofs.Answers.{stops1, stops2, stops3, stops4, stops5, stops6, stops7, stops_none, refuses, loads}
use Rattle.script_file.proofs.Findings.{finds1, finds2, finds3, finds5, finds6, finds7, file_table, finds-none, finds4, labels_are}
use Rattle.script_file.proofs.load.Goals as goal
use Rattle.script_file.proofs.load.Goals.{Else-not-size_ok, Else-not-counts_ok, In-Some, Else-not-records_ok, Else-not-code_ok}

pub returns-then-not-size_ok : goal.returns-then-not-size_ok
returns-then-not-size_ok c = refuses _ _ 0 (stops1 _ (finds1 _ (sym c.size_ok.ensures ∙ c.if-not-size_ok.true)))

passed1 : (c : Else-not-size_ok) → passes1 c.args.file.now ≡ true
passed1 c = finds1 _ (sym c.size_ok.ensures ∙ c.if-not-size_ok.false)

pub returns-then-not-counts_ok : goal.returns-then-not-counts_ok
returns-then-not-counts_ok c =
    refuses _ _ 1
    (stops2 _ (passed1 (goal.at.returns-then-not-counts_ok c).Else-not-size_ok)
    (finds2 _ _ c.read_header-h.ensures.0 (sym c.counts_ok.ensures ∙ c.if-not-counts_ok.true)))

passed2 : (c : Else-not-counts_ok) → passes2 c.args.file.now ≡ true
passed2 c = finds2 _ _ c.read_header-h.ensures.0 (sym c.counts_ok.ensures ∙ c.if-not-counts_ok.false)

counts : (c : Else-not-counts_ok) → Counted c.read_header-h.result
counts c = counted _ (sym c.counts_ok.ensures ∙ c.if-not-counts_ok.false)

pub returns-then-not-offsets_ok : goal.returns-then-not-offsets_ok
returns-then-not-offsets_ok c =
    let at = goal.at.returns-then-not-offsets_ok c in
    refuses _ _ 2
    (stops3 _ (passed1 at.Else-not-size_ok) (passed2 at.Else-not-counts_ok)
    (finds3 _ _ c.read_header-h.ensures.0 (sym c.offsets_ok.ensures ∙ c.if-not-offsets_ok.true)))

pub slice_bounds-label_bytes-count : goal.slice_bounds-label_bytes-count
slice_bounds-label_bytes-count c = let p = placed _ _ (sym c.offsets_ok.ensures ∙ c.if-not-offsets_ok.false) in omega arith

pub slice_bounds-label_bytes-start : goal.slice_bounds-label_bytes-start
slice_bounds-label_bytes-start c = let p = placed _ _ (sym c.offsets_ok.ensures ∙ c.if-not-offsets_ok.false) in omega arith

pub slice_bounds-label_bytes-end : goal.slice_bounds-label_bytes-end
slice_bounds-label_bytes-end c = let p = placed _ _ (sym c.offsets_ok.ensures ∙ c.if-not-offsets_ok.false) in omega arith

pub read_labels-requires : goal.read_labels-requires
read_labels-requires c = (counts (goal.at.read_labels-requires c).Else-not-counts_ok).labels

pub returns-in_default : goal.returns-in_default
returns-in_default c =
    let at = goal.at.returns-in_default c in
    refuses _ _ 3
    (stops4 _ (passed1 at.Else-not-size_ok) (passed2 at.Else-not-counts_ok)
    (finds3 _ _ c.read_header-h.ensures.0 (sym c.offsets_ok.ensures ∙ c.if-not-offsets_ok.false))
    (finds-none _ (file_table _ _ c.read_header-h.ensures.0 _ (sym c.in_default.is ∙ c.read_labels.ensures))))

-- ── behind check 4 ──

passed3 : (c : In-Some) → passes3 c.args.file.now ≡ true
passed3 c = finds3 _ _ c.read_header-h.ensures.0 (sym c.offsets_ok.ensures ∙ c.if-not-offsets_ok.false)

placing : (c : In-Some) → Placed c.read_header-h.result (length c.args.file.now)
placing c = placed _ _ (sym c.offsets_ok.ensures ∙ c.if-not-offsets_ok.false)

listed : (c : In-Some) → Some c.in-Some.listed ≡ labels_found (file_labels c.args.file.now)
listed c = file_table _ _ c.read_header-h.ensures.0 _ (sym c.in-Some.is ∙ c.read_labels.ensures)

passed4 : (c : In-Some) → passes4 c.args.file.now ≡ true
passed4 c = finds4 _ _ (listed c)

pub returns-then-not-flows : goal.returns-then-not-flows
returns-then-not-flows c =
    let at = goal.at.returns-then-not-flows c in
    refuses _ _ 4
    (stops5 _ (passed1 at.Else-not-size_ok) (passed2 at.Else-not-counts_ok) (passed3 at.In-Some) (passed4 at.In-Some)
    (finds5 _ _ (listed at.In-Some) (sym c.flows.ensures ∙ c.if-not-flows.true)))

pub slice_bounds-records-count : goal.slice_bounds-records-count
slice_bounds-records-count c = let p = placing (goal.at.slice_bounds-records-count c).In-Some in omega arith

pub slice_bounds-records-start : goal.slice_bounds-records-start
slice_bounds-records-start c = let p = placing (goal.at.slice_bounds-records-start c).In-Some in omega arith

pub slice_bounds-records-end : goal.slice_bounds-records-end
slice_bounds-records-end c = let p = placing (goal.at.slice_bounds-records-end c).In-Some in omega arith

pub records_ok-requires : goal.records_ok-requires
records_ok-requires c = (counts (goal.at.records_ok-requires c).Else-not-counts_ok).records

pub returns-then-not-records_ok : goal.returns-then-not-records_ok
returns-then-not-records_ok c =
    let at = goal.at.returns-then-not-records_ok c in
    refuses _ _ 5
    (stops6 _ (passed1 at.Else-not-size_ok) (passed2 at.Else-not-counts_ok) (passed3 at.In-Some) (passed4 at.In-Some)
    (finds5 _ _ (listed at.In-Some) (sym c.flows.ensures ∙ c.if-not-flows.false))
    (finds6 _ _ c.read_header-h.ensures.0 (placing at.In-Some).code (sym c.records_ok.ensures ∙ c.if-not-records_ok.true)))

-- ── behind check 6 ──

passed5 : (c : Else-not-records_ok) → passes5 c.args.file.now ≡ true
passed5 c = finds5 _ _ (file_table _ _ c.read_header-h.ensures.0 _ (sym c.in-Some.is ∙ c.read_labels.ensures)) (sym c.flows.ensures ∙ c.if-not-flows.false)

passed6 : (c : Else-not-records_ok) → passes6 c.args.file.now ≡ true
passed6 c =
    let p = placed _ _ (sym c.offsets_ok.ensures ∙ c.if-not-offsets_ok.false) in
    finds6 _ _ c.read_header-h.ensures.0 p.code (sym c.records_ok.ensures ∙ c.if-not-records_ok.false)

pub slice_bounds-code-count : goal.slice_bounds-code-count
slice_bounds-code-count c = let p = placing (goal.at.slice_bounds-code-count c).In-Some in omega arith

pub slice_bounds-code-start : goal.slice_bounds-code-start
slice_bounds-code-start c = let p = placing (goal.at.slice_bounds-code-start c).In-Some in omega arith

pub code_ok-requires : goal.code_ok-requires
code_ok-requires c =
    let at = goal.at.code_ok-requires c in
    let n = counts at.Else-not-counts_ok in
    let p = placing at.In-Some in
    let h = c.read_header-h.result in
    omega (arith, ap length (part_to_end c.args.file.now h.code.offset), length-drop h.code.offset c.args.file.now)

pub returns-then-not-code_ok : goal.returns-then-not-code_ok
returns-then-not-code_ok c =
    let at = goal.at.returns-then-not-code_ok c in
    refuses _ _ 6
    (stops7 _ (passed1 at.Else-not-size_ok) (passed2 at.Else-not-counts_ok) (passed3 at.In-Some) (passed4 at.In-Some)
    (passed5 at.Else-not-records_ok) (passed6 at.Else-not-records_ok)
    (finds7 _ _ c.read_header-h.ensures.0 (sym c.code_ok.ensures ∙ c.if-not-code_ok.true)))

pub returns : goal.returns
returns c =
    let at = goal.at.returns c in
    let none =
    stops_none _ (passed1 at.Else-not-size_ok) (passed2 at.Else-not-counts_ok) (passed3 at.In-Some) (passed4 at.In-Some)
    (passed5 at.Else-not-records_ok) (passed6 at.Else-not-records_ok)
    (finds7 _ _ c.read_header-h.ensures.0 (sym c.code_ok.ensures ∙ c.if-not-code_ok.false)) in
    let q = loads _ c.args.labels.now none in
    (ap Ok c.read_header-h.ensures.0 ∙ q.0, labels_are _ _ (listed at.In-Some) ∙ q.1)
