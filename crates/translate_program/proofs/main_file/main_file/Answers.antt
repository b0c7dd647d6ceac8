use Rattle.std.proofs.Common.{◌≡◌, ◌<◌, ◌++◌, All, length, flat_map, refl, ap, sym, ◌∙◌, subst, arith}
use Rattle.elf_definition.specs.Start.{readable, writable}
use Rattle.elf_definition.specs.Pages.{pages_below}
use Rattle.elf_image_parts.specs.Runs.{IsRun, pages_of, run_pages}
use Rattle.emit_layout.specs.ClassNames.{file_name}
use Rattle.emit_layout.specs.Numbers.{main_methods}
use Rattle.trampoline.specs.declared.start.Start.{Start}
use Rattle.translate_classes.specs.declared.content.MainClass.{MainClass}
use Rattle.translate_classes.specs.Content.{RiseFrom, behind}
use Rattle.translate_program.proofs.main_file.main_file.Goals as goal

pub main_class-requires : goal.main_class-requires
main_class-requires c =
    let starts = c.as_slice-2.ensures.value in
    let code = c.as_slice-3.ensures.value in
    record {
      main = record {
        some = omega (arith, ap length starts, c.requires.some);
        few = omega (arith, ap length starts, c.requires.few);
        few_code = omega (arith, ap length code, c.requires.few_code);
        few_data = omega (arith, ap length c.as_slice-4.ensures.value, c.requires.few_data);
        few_runs = omega (arith, ap length c.as_slice.ensures.value, c.requires.few_runs);
        runs = subst (All IsRun) (sym c.as_slice.ensures.value) c.requires.runs;
        rise =
            subst (λ code. RiseFrom main_methods (code ++ c.as_slice-4.result.now)) (sym code)
            (subst (λ fills. RiseFrom main_methods (c.args.code.now.runs.items ++ fills)) (sym c.as_slice-4.ensures.value) c.requires.rise);
        known =
            subst (λ code. All (λ (s : Start). s.method < behind main_methods code) c.as_slice-2.result.now) (sym code)
            (subst (λ starts. All (λ (s : Start). s.method < behind main_methods c.args.code.now.runs.items) starts) (sym starts) c.requires.known);
      };
    }

pub returns : goal.returns
returns c source head =
    let main : MainClass = record {
      beginning = c.args.head.now.beginning;
      meter = c.args.meter;
      runs = c.as_slice.result;
      starts = c.as_slice-2.result;
      code = c.as_slice-3.result;
      «data» = c.as_slice-4.result;
    } in
    record {
      named = c.in_ok-file_name.ensures ∙ ap file_name c.as_str.ensures.value;
      main = main;
      content = record {
        meter_is = refl;
        beginning_is = head.beginning_is;
        pages_are =
            subst (λ runs. flat_map run_pages runs ≡ pages_of (readable source) (writable source) pages_below) (sym c.as_slice.ensures.value)
            head.pages_are;
        runs_are = subst (All IsRun) (sym c.as_slice.ensures.value) head.runs_are;
        starts_are = c.as_slice-2.ensures.value;
        code_is = c.as_slice-3.ensures.value;
        data_is = c.as_slice-4.ensures.value;
      };
      class_is = c.in_ok-bytes.ensures;
    }
