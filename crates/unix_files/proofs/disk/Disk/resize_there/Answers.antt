use Rattle.std.proofs.Common.{◌+◌, ◌-◌, ◌++◌, ap, sym, ◌∙◌, arith, length, take, replicate}
use Rattle.std.proofs.lemmas.Bool.{leb-true}
use Rattle.unix_definition.specs.Files.{blocks_for, bytes_at, with_bytes, resized}
use Rattle.unix_files.specs.Stored.{file_at}
use Rattle.unix_files.specs.Kept.{files_of}
use Rattle.unix_files.proofs.DiskLemmas.{bytes-is, within, bytes-set, IsKept-bytes, free-is, resized-longer, resized-shorter}
use Rattle.unix_files.proofs.disk.Disk.resize_there.Goals as goal

pub size-requires : goal.size-requires
size-requires c = let d = c.self.inside in let w = within d.entries.items d.store c.args.self.now c.self.view_is c.self.invariant c.args.n c.requires.file in let all = c.self.invariant.files_all in omega arith

pub extend-requires-clause-file : goal.extend-requires-clause-file
extend-requires-clause-file c = let d = c.self.inside in let w = within d.entries.items d.store c.args.self.now c.self.view_is c.self.invariant c.args.n c.requires.file in let all = c.self.invariant.files_all in omega arith

pub extend-requires-clause-room : goal.extend-requires-clause-room
extend-requires-clause-room c =
    let d = c.self.inside in
    let v = c.args.self.now in
    let bytes = bytes-is d.entries.items d.store v c.self.view_is c.self.invariant c.args.n in
    let free = free-is d.entries.items d.store v c.self.view_is in
    let room = leb-true (blocks_for c.args.size) (blocks_for (length (bytes_at v c.args.n)) + v.free) c.requires.room in
    rw (← bytes, free) room

pub invariant_of-self-else-size : goal.invariant_of-self-else-size
invariant_of-self-else-size c =
    let d = c.self.inside in
    let file = file_at d.store c.args.n in
    rw c.extend.ensures (IsKept-bytes d.entries.items d.store c.args.self.now c.self.view_is c.self.invariant c.args.n (file ++ replicate (c.args.size - length file) 0) c.requires.file)

pub returns-then-size : goal.returns-then-size
returns-then-size c =
    let d = c.self.inside in
    let v = c.args.self.now in
    let file = file_at d.store c.args.n in
    ap (files_of d.entries.items) c.cut.ensures
    ∙ (bytes-set d.entries.items d.store v c.self.view_is c.self.invariant c.args.n (take c.args.size file) c.requires.file
    ∙ ap (with_bytes v c.args.n) (resized-shorter file c.args.size (let e = c.size.ensures in let l = c.if-size.true in omega arith) ∙ ap (λ l. resized l c.args.size) (sym (bytes-is d.entries.items d.store v c.self.view_is c.self.invariant c.args.n))))

pub returns-else-size : goal.returns-else-size
returns-else-size c =
    let d = c.self.inside in
    let v = c.args.self.now in
    let file = file_at d.store c.args.n in
    ap (files_of d.entries.items) c.extend.ensures
    ∙ (bytes-set d.entries.items d.store v c.self.view_is c.self.invariant c.args.n (file ++ replicate (c.args.size - length file) 0) c.requires.file
    ∙ ap (with_bytes v c.args.n) (resized-longer file c.args.size (let e = c.size.ensures in let l = c.if-size.false in omega arith) ∙ ap (λ l. resized l c.args.size) (sym (bytes-is d.entries.items d.store v c.self.view_is c.self.invariant c.args.n))))
