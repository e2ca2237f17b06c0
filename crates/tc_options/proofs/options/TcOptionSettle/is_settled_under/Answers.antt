use Rattle.tc_options.proofs.options.TcOptionSettle.is_settled_under.Goals as goal

pub returns-in-FqCodel-clause-settled : goal.returns-in-FqCodel-clause-settled
returns-in-FqCodel-clause-settled g c = rw c.in-FqCodel.is c.is_settled_of_kind.ensures.settled

pub returns-in-FqCodel-clause-typed : goal.returns-in-FqCodel-clause-typed
returns-in-FqCodel-clause-typed g c = rw c.in-FqCodel.is c.is_settled_of_kind.ensures.typed

pub returns-in-Ingress-clause-settled : goal.returns-in-Ingress-clause-settled
returns-in-Ingress-clause-settled g c = rw c.in-Ingress.is c.is_settled_of_kind-in-Ingress.ensures.settled

pub returns-in-Ingress-clause-typed : goal.returns-in-Ingress-clause-typed
returns-in-Ingress-clause-typed g c = rw c.in-Ingress.is c.is_settled_of_kind-in-Ingress.ensures.typed

pub returns-in-U32-clause-settled : goal.returns-in-U32-clause-settled
returns-in-U32-clause-settled g c = rw c.in-U32.is c.is_settled_of_kind-in-U32.ensures.settled

pub returns-in-U32-clause-typed : goal.returns-in-U32-clause-typed
returns-in-U32-clause-typed g c = rw c.in-U32.is c.is_settled_of_kind-in-U32.ensures.typed

pub returns-in-MatchAll-clause-settled : goal.returns-in-MatchAll-clause-settled
returns-in-MatchAll-clause-settled g c = rw c.in-MatchAll.is c.is_settled_of_kind-in-MatchAll.ensures.settled

pub returns-in-MatchAll-clause-typed : goal.returns-in-MatchAll-clause-typed
returns-in-MatchAll-clause-typed g c = rw c.in-MatchAll.is c.is_settled_of_kind-in-MatchAll.ensures.typed

pub returns-in-Bpf-clause-settled : goal.returns-in-Bpf-clause-settled
returns-in-Bpf-clause-settled g c = rw c.in-Bpf.is c.is_settled_of_kind-in-Bpf.ensures.settled

pub returns-in-Bpf-clause-typed : goal.returns-in-Bpf-clause-typed
returns-in-Bpf-clause-typed g c = rw c.in-Bpf.is c.is_settled_of_kind-in-Bpf.ensures.typed
