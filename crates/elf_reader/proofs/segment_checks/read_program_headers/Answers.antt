use Rattle.elf_definition.specs.Segments.{program_header}
use Rattle.elf_reader.proofs.TableLemmas.{table_more, few_more}
use Rattle.elf_reader.proofs.segment_checks.read_program_headers.Goals as goal

pub loop-i-preserved : goal.loop-i-preserved
loop-i-preserved c =
    record {
      read =
          table_more (program_header c.args.b.now) c.loop-i.headers.items _ c.program_header_at.result c.loop-i.i
          c.loop-i.invariant.read c.program_header_at.ensures c.in_ok-push.ensures.items;
      few = few_more c.loop-i.headers.items _ c.program_header_at.result c.loop-i.i c.loop-i.invariant.few c.in_ok-push.ensures.items;
    }
