use Rattle.pipe_net.proofs.serving.serve_at.Goals as goal

pub returns-in-Sink-clause-served : goal.returns-in-Sink-clause-served
returns-in-Sink-clause-served g c = rw c.in-Sink.is c.serve.ensures.served

pub returns-in-Pipe-clause-served : goal.returns-in-Pipe-clause-served
returns-in-Pipe-clause-served g c = rw c.in-Pipe.is c.serve-in-Pipe.ensures.served

pub returns-in-Nowhere-clause-served : goal.returns-in-Nowhere-clause-served
returns-in-Nowhere-clause-served g c = rw c.in-Nowhere.is c.serve-in-Nowhere.ensures.served
