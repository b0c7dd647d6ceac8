use Rattle.std.proofs.Common.{◌≡◌, ℕ, List, length, ap, sym, subst, ◌∙◌, arith}
use Rattle.std.proofs.lemmas.List.{with_items_is}
use Rattle.mips_definition.specs.Loads.{memory_stored}
use Rattle.mips_memory.specs.ByteList.{memory_in}
use Rattle.mips_memory.specs.Pages.{Pages, IsSound, memory_of}
use Rattle.mips_memory.proofs.PageLemmas.{whole_word, store_aligned-there, stored-there, IsSound-bytes}
use Rattle.mips_memory.proofs.MemoryLemmas.{store-answer}
use Rattle.mips_memory.proofs.memory.GuestMemory.aligned_store.Goals as goal

pub into_bytes-requires-clause-whole : goal.into_bytes-requires-clause-whole
into_bytes-requires-clause-whole c =
    let sound = subst IsSound c.self.view_is c.self.invariant in
    let kept = c.deref_mut.ensures.value ∙ ap (λ (q : Pages). q.bytes) c.self.view_is in
    omega (arith, whole_word c.args.self.now sound c.args.at c.in-Some.cell c.in-Some.ensures.1, ap (λ (l : List ℕ). length l) kept)

pub into_bytes-requires-clause-aligned : goal.into_bytes-requires-clause-aligned
into_bytes-requires-clause-aligned c =
    let sound = subst IsSound c.self.view_is c.self.invariant in
    store_aligned-there c.args.self.now sound c.args.at c.in-Some.cell c.in-Some.ensures.1 c.args.name c.requires

pub invariant_of-self : goal.invariant_of-self
invariant_of-self c =
    let v = c.self.inside.bytes in
    let now = c.into_bytes.new.bytes in
    let size : length now ≡ length v.items = c.into_bytes.ensures.size ∙ ap (λ (l : List ℕ). length l) c.deref_mut.ensures.value in
    subst (λ (bs : List ℕ). IsSound (record { table = c.self.inside.table.items; bytes = bs })) (sym (with_items_is v now (size ∙ sym v.ok.0)))
    (IsSound-bytes (record { table = c.self.inside.table.items; bytes = v.items }) now size c.self.invariant)

pub returns-in-Some-clause-answer : goal.returns-in-Some-clause-answer
returns-in-Some-clause-answer c = sym (store-answer c.args.name c.args.order c.args.self.now c.args.at c.requires ∙ c.in-Some.ensures.0)

pub returns-in-Some-clause-after : goal.returns-in-Some-clause-after
returns-in-Some-clause-after c =
    let v = c.self.inside.bytes in
    let now = c.into_bytes.new.bytes in
    let sound = subst IsSound c.self.view_is c.self.invariant in
    let kept = c.deref_mut.ensures.value ∙ ap (λ (q : Pages). q.bytes) c.self.view_is in
    let size : length now ≡ length v.items = c.into_bytes.ensures.size ∙ ap (λ (l : List ℕ). length l) c.deref_mut.ensures.value in
    ap (λ (bs : List ℕ). memory_of (record { table = c.self.inside.table.items; bytes = bs })) (with_items_is v now (size ∙ sym v.ok.0))
    ∙ ap (λ (q : Pages). memory_of (record q { bytes = now })) c.self.view_is
    ∙ stored-there c.args.self.now sound c.args.at c.in-Some.cell c.in-Some.ensures.1 c.args.name c.args.order c.args.w now c.requires
    (c.into_bytes.ensures.after ∙ ap (λ l. memory_stored c.args.name c.args.order (memory_in l) c.in-Some.cell c.args.w) kept)
