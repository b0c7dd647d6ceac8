-- What a host has set over the fields and arrays of a call is a state of the guest's.
use Rattle.std.proofs.Common.{ap, if◌then◌else◌, sym, ◌∙◌}
use Rattle.emit_layout.specs.FieldNumbers.{register_field}
use Rattle.emit_instructions_laws.proofs.PieceLaws.Sets.{none-kept}
use Rattle.emit_program_laws.specs.Entered.{work_over}
use Rattle.emit_calls_laws.specs.Setting.{HostsSetStates}

pub hosts-set : HostsSetStates
hosts-set order code choose fields heap t held set changed s so =
    let locals = (work_over choose set changed).locals in
    record {
      guest_is = so.guest_is;
      held = record {
        register_is = λ r above below known. ap (λ b. if b then locals r else set (register_field r)) (none-kept r) ∙ so.registers_are r above below;
        register_word = so.register_word;
        hi_is = so.hi_is;
        hi_word = so.hi_word;
        lo_is = so.lo_is;
        lo_word = so.lo_word;
        pc = s.pc;
        pc_is = so.pc_is;
        link_is = so.link_is;
        readable = held.readable;
        readable_is = so.tables.readable_kept ∙ held.readable_is;
        writable = held.writable;
        writable_is = so.tables.writable_kept ∙ held.writable_is;
        memory_held = record {
          readable_pages = held.memory_held.readable_pages;
          writable_pages = held.memory_held.writable_pages;
          readable_there = so.tables.readable_there ∙ held.memory_held.readable_there;
          writable_there = so.tables.writable_there ∙ held.memory_held.writable_there;
          whole = so.tables.whole;
          apart = held.memory_held.apart;
          shared = held.memory_held.shared;
          reads = sym so.memory_is;
        };
      };
      pc_is = so.pc_is;
      pc_word = so.pc_word;
    }
