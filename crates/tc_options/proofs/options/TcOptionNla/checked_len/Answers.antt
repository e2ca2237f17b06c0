use Rattle.tc_options.proofs.options.TcOptionNla.checked_len.Goals as goal

pub returns-in-FqCodel : goal.returns-in-FqCodel
returns-in-FqCodel g c = rw c.in-FqCodel.is c.checked_len.ensures

pub returns-in-Ingress : goal.returns-in-Ingress
returns-in-Ingress g c = rw c.in-Ingress.is c.checked_len-in-Ingress.ensures

pub returns-in-Flower : goal.returns-in-Flower
returns-in-Flower g c = rw c.in-Flower.is c.checked_len-in-Flower.ensures

pub returns-in-U32 : goal.returns-in-U32
returns-in-U32 g c = rw c.in-U32.is c.checked_len-in-U32.ensures

pub returns-in-MatchAll : goal.returns-in-MatchAll
returns-in-MatchAll g c = rw c.in-MatchAll.is c.checked_len-in-MatchAll.ensures

pub returns-in-Bpf : goal.returns-in-Bpf
returns-in-Bpf g c = rw c.in-Bpf.is c.checked_len-in-Bpf.ensures
