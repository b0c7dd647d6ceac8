use Rattle.delay_slots.proofs.LeadLemmas.{unit_leads}
use Rattle.delay_slots.proofs.laws.unit_leads_on.Goals as goal

pub returns : goal.returns
returns c = unit_leads
