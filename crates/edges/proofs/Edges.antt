-- The table of worked edges, by computing.
use mathlib.Core.Path.{◌≡◌, refl, ap}
use mathlib.Core.List.{List, [], ◌∷◌, ◌++◌}
use Rattle.channel.specs.Channels.{highest_full}
use Rattle.recording.specs.Journal.{record_journal}
use Rattle.page.specs.Call.{page_call}
use Rattle.page.specs.Journal.{page_journal}
use Rattle.report.specs.Report.{report_text}
use Rattle.report.specs.Wall.{wall_text}
use Rattle.recording.proofs.Computed.{record_computed}
use Rattle.page.proofs.Computed.{page_computed}
use Rattle.conversion.proofs.Computed.{convert_computed}
use Rattle.zone.proofs.Computed.{zone_computed}
use Rattle.edges.specs.Rows.{Row, Reply, reply, answers, expectations}
use Rattle.edges.specs.Editions.{editions}
use Rattle.edges.specs.Gates.{gates}
use Rattle.edges.specs.Searches.{searches}
use Rattle.edges.specs.Remaining.{remaining}
use Rattle.edges.specs.Empty.{empties}
use Rattle.edges.specs.Pages.{page_rows}
use Rattle.edges.specs.Conversions.{conversions}
use Rattle.edges.specs.Edges.{first_edges, table}

-- What the rows are computed by, named once: `unfolding computed` unfolds all of it.
computed : List Row → List Reply
unfolding record_computed highest_full record_journal page_computed page_call page_journal convert_computed zone_computed report_text wall_text
computed rows = answers rows

-- The table in eight parts: as a whole it is beyond the 50,000,000 steps that one proof may take.
first-edges : answers first_edges ≡ expectations first_edges
unfolding computed
first-edges = refl

edition-edges : answers editions ≡ expectations editions
unfolding computed
edition-edges = refl

gate-edges : answers gates ≡ expectations gates
unfolding computed
gate-edges = refl

search-edges : answers searches ≡ expectations searches
unfolding computed
search-edges = refl

remaining-edges : answers remaining ≡ expectations remaining
unfolding computed
remaining-edges = refl

empty-edges : answers empties ≡ expectations empties
unfolding computed
empty-edges = refl

page-edges : answers page_rows ≡ expectations page_rows
unfolding computed
page-edges = refl

conversion-edges : answers conversions ≡ expectations conversions
unfolding computed
conversion-edges = refl

-- Where two lists of rows answer as expected, so do both together.
answers-all : (xs ys : List Row) → answers (xs ++ ys) ≡ answers xs ++ answers ys
answers-all [] ys = refl
answers-all (x ∷ xs) ys = ap (◌∷◌ (reply x.call)) (answers-all xs ys)

expectations-all : (xs ys : List Row) → expectations (xs ++ ys) ≡ expectations xs ++ expectations ys
expectations-all [] ys = refl
expectations-all (x ∷ xs) ys = ap (◌∷◌ x.expected) (expectations-all xs ys)

joined : (xs ys : List Row) → answers xs ≡ expectations xs → answers ys ≡ expectations ys → answers (xs ++ ys) ≡ expectations (xs ++ ys)
joined xs ys e f = rw (answers-all xs ys, expectations-all xs ys, e, f) refl

pub edges : answers table ≡ expectations table
edges =
    joined first_edges (editions ++ gates ++ searches ++ remaining ++ empties ++ page_rows ++ conversions) first-edges
    (joined editions (gates ++ searches ++ remaining ++ empties ++ page_rows ++ conversions) edition-edges
    (joined gates (searches ++ remaining ++ empties ++ page_rows ++ conversions) gate-edges
    (joined searches (remaining ++ empties ++ page_rows ++ conversions) search-edges
    (joined remaining (empties ++ page_rows ++ conversions) remaining-edges
    (joined empties (page_rows ++ conversions) empty-edges (joined page_rows conversions page-edges conversion-edges))))))
