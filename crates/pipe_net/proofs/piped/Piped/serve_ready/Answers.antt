use Rattle.pipe_net.proofs.piped.Piped.serve_ready.Goals as goal

pub returns-in-Source-clause-served : goal.returns-in-Source-clause-served
returns-in-Source-clause-served g c = rw c.in-Source.is c.serve_at.ensures.served

pub returns-in-Pipe-clause-served : goal.returns-in-Pipe-clause-served
returns-in-Pipe-clause-served g c = rw c.in-Pipe.is c.serve_at-in-Pipe.ensures.served
