use Rattle.tc_options.proofs.options.TcOptionNla.put_value.Goals as goal

pub returns-in-FqCodel-clause-written : goal.returns-in-FqCodel-clause-written
returns-in-FqCodel-clause-written g c = rw c.in-FqCodel.is c.put_value.ensures.written

pub returns-in-FqCodel-clause-typed : goal.returns-in-FqCodel-clause-typed
returns-in-FqCodel-clause-typed g c = rw c.in-FqCodel.is c.put_value.ensures.typed

pub returns-in-Ingress-clause-written : goal.returns-in-Ingress-clause-written
returns-in-Ingress-clause-written g c = rw c.in-Ingress.is c.put_value-in-Ingress.ensures.written

pub returns-in-Ingress-clause-typed : goal.returns-in-Ingress-clause-typed
returns-in-Ingress-clause-typed g c = rw c.in-Ingress.is c.put_value-in-Ingress.ensures.typed

pub returns-in-Flower-clause-written : goal.returns-in-Flower-clause-written
returns-in-Flower-clause-written g c = rw c.in-Flower.is c.put_value-in-Flower.ensures.written

pub returns-in-Flower-clause-typed : goal.returns-in-Flower-clause-typed
returns-in-Flower-clause-typed g c = rw c.in-Flower.is c.put_value-in-Flower.ensures.typed

pub returns-in-MatchAll-clause-written : goal.returns-in-MatchAll-clause-written
returns-in-MatchAll-clause-written g c = rw c.in-MatchAll.is c.put_value-in-MatchAll.ensures.written

pub returns-in-MatchAll-clause-typed : goal.returns-in-MatchAll-clause-typed
returns-in-MatchAll-clause-typed g c = rw c.in-MatchAll.is c.put_value-in-MatchAll.ensures.typed

pub returns-in-Bpf-clause-written : goal.returns-in-Bpf-clause-written
returns-in-Bpf-clause-written g c = rw c.in-Bpf.is c.put_value-in-Bpf.ensures.written

pub returns-in-Bpf-clause-typed : goal.returns-in-Bpf-clause-typed
returns-in-Bpf-clause-typed g c = rw c.in-Bpf.is c.put_value-in-Bpf.ensures.typed

pub returns-in-Other-clause-written : goal.returns-in-Other-clause-written
returns-in-Other-clause-written g c = rw c.in-Other.is c.put_value-in-Other.ensures.written

pub returns-in-Other-clause-typed : goal.returns-in-Other-clause-typed
returns-in-Other-clause-typed g c = rw c.in-Other.is c.put_value-in-Other.ensures.typed
