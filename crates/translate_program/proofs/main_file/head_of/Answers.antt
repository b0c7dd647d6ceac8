use Rattle.translate_program.proofs.main_file.head_of.Goals as goal

pub returns : goal.returns
returns c = record {
  beginning_is = c.beginning_of.ensures;
  pages_are = c.in_ok-runs.ensures.pages;
  runs_are = c.in_ok-runs.ensures.sound;
}
