use Rattle.jvm_instructions.specs.Workings.{workspace}
use Rattle.jvm_instructions.proofs.Results.{on_ok, if_err}
use Rattle.jvm_instructions.proofs.working.Working.access.Goals as goal

pub returns-in-Iaload-clause-ok : goal.returns-in-Iaload-clause-ok
returns-in-Iaload-clause-ok c = rw c.in-Iaload.is (on_ok c.load_int.result (λ h program. h program (workspace c.args.self.now)) c.load_int.ensures.ok)

pub returns-in-Iaload-clause-err : goal.returns-in-Iaload-clause-err
returns-in-Iaload-clause-err c = rw c.in-Iaload.is (if_err c.load_int.result (λ trap h program. h program (workspace c.args.self.now)) c.load_int.ensures.err)

pub returns-in-Aaload-clause-ok : goal.returns-in-Aaload-clause-ok
returns-in-Aaload-clause-ok c = rw c.in-Aaload.is (on_ok c.load_page.result (λ h program. h program (workspace c.args.self.now)) c.load_page.ensures.ok)

pub returns-in-Aaload-clause-err : goal.returns-in-Aaload-clause-err
returns-in-Aaload-clause-err c = rw c.in-Aaload.is (if_err c.load_page.result (λ trap h program. h program (workspace c.args.self.now)) c.load_page.ensures.err)

pub returns-in-Iastore-clause-ok : goal.returns-in-Iastore-clause-ok
returns-in-Iastore-clause-ok c = rw c.in-Iastore.is (on_ok c.store_int.result (λ h program. h program (workspace c.args.self.now)) c.store_int.ensures.ok)

pub returns-in-Iastore-clause-err : goal.returns-in-Iastore-clause-err
returns-in-Iastore-clause-err c = rw c.in-Iastore.is (if_err c.store_int.result (λ trap h program. h program (workspace c.args.self.now)) c.store_int.ensures.err)

pub returns-in-Aastore-clause-ok : goal.returns-in-Aastore-clause-ok
returns-in-Aastore-clause-ok c = rw c.in-Aastore.is (on_ok c.store_page.result (λ h program. h program (workspace c.args.self.now)) c.store_page.ensures.ok)

pub returns-in-Aastore-clause-err : goal.returns-in-Aastore-clause-err
returns-in-Aastore-clause-err c = rw c.in-Aastore.is (if_err c.store_page.result (λ trap h program. h program (workspace c.args.self.now)) c.store_page.ensures.err)
