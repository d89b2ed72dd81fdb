use Rattle.dirac_encode_laws.proofs.Alike.{pictures_shown_alike}
use Rattle.dirac_encode_laws.proofs.Headers.{header_read, header_short}
use Rattle.dirac_encode_laws.proofs.Showing.{streams_cut, streams_shown}
use Rattle.dirac_encode_laws.proofs.Fitting.{budgets_kept}
use Rattle.dirac_encode_laws.proofs.Kept.{jobs_kept, kept_under, sources_kept}
use Rattle.dirac_encode_laws.proofs.Reading.{jobs_read, jobs_small, tables_chosen}
use Rattle.dirac_encode_laws.proofs.Recovered.{raws_recovered, under_recovered}
use Rattle.dirac_encode_laws.proofs.Sourcing.{jobs_read_under, shown_under, sources_shown}
use Rattle.dirac_encode_laws.proofs.laws.streams_show_their_pictures.Goals as goal

pub returns-clause-headers : goal.returns-clause-headers
returns-clause-headers c = λ t accepted. (header_read t accepted, header_short t)

pub returns-clause-cut : goal.returns-clause-cut
returns-clause-cut c = streams_cut c.infos_are_read_as_written.ensures

pub returns-clause-shown : goal.returns-clause-shown
returns-clause-shown c = streams_shown c.infos_are_read_as_written.ensures

pub returns-clause-sources_shown : goal.returns-clause-sources_shown
returns-clause-sources_shown c = sources_shown (streams_shown c.infos_are_read_as_written.ensures) jobs_read c.plans_can_be_coded.ensures (tables_chosen c.chosen_tables_fit.ensures)

pub returns-clause-sources : goal.returns-clause-sources
returns-clause-sources c = jobs_read (tables_chosen c.chosen_tables_fit.ensures)

pub returns-clause-sources_shown_again : goal.returns-clause-sources_shown_again
returns-clause-sources_shown_again c = jobs_kept

pub returns-clause-sources_kept : goal.returns-clause-sources_kept
returns-clause-sources_kept c = sources_kept c.plans_can_be_coded.ensures (tables_chosen c.chosen_tables_fit.ensures)

pub returns-clause-coefficients : goal.returns-clause-coefficients
returns-clause-coefficients c = jobs_small (tables_chosen c.chosen_tables_fit.ensures)

pub returns-clause-recovered : goal.returns-clause-recovered
returns-clause-recovered c = raws_recovered (streams_shown c.infos_are_read_as_written.ensures) (streams_cut c.infos_are_read_as_written.ensures) c.plans_can_be_coded.ensures (tables_chosen c.chosen_tables_fit.ensures)

pub returns-clause-tables : goal.returns-clause-tables
returns-clause-tables c = tables_chosen c.chosen_tables_fit.ensures

pub returns-clause-sources_under : goal.returns-clause-sources_under
returns-clause-sources_under c = jobs_read_under (jobs_read (tables_chosen c.chosen_tables_fit.ensures))

pub returns-clause-shown_under : goal.returns-clause-shown_under
returns-clause-shown_under c = shown_under (streams_shown c.infos_are_read_as_written.ensures) (jobs_read (tables_chosen c.chosen_tables_fit.ensures)) c.plans_can_be_coded.ensures

pub returns-clause-kept_under : goal.returns-clause-kept_under
returns-clause-kept_under c = kept_under c.plans_can_be_coded.ensures (tables_chosen c.chosen_tables_fit.ensures)

pub returns-clause-recovered_under : goal.returns-clause-recovered_under
returns-clause-recovered_under c = under_recovered (streams_shown c.infos_are_read_as_written.ensures) (streams_cut c.infos_are_read_as_written.ensures) c.plans_can_be_coded.ensures (tables_chosen c.chosen_tables_fit.ensures)

pub returns-clause-budgets : goal.returns-clause-budgets
returns-clause-budgets c = budgets_kept

pub returns-clause-alike : goal.returns-clause-alike
returns-clause-alike c = pictures_shown_alike
