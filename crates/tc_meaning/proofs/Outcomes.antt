-- Consequences of a reading that succeeded.
use Rattle.std.proofs.Common.{◌≡◌, Bool, true, false, Ok, Err, cond, refl}
use Rattle.nla_frames.specs.declared.error.DecodeError.{DecodeError}
use Rattle.nla_frames.specs.Fault.{Outcome, seen, read_as, refused, ◌>>=◌}

-- what is seen was read
pub seen-ok : {X Y : Type 0} (see : X → Y) (r : Outcome X) (y : Y) → seen see r ≡ read_as y → (x : X) × (r ≡ read_as x) × (see x ≡ y)
seen-ok see (Ok x) y e = (x, refl, cc)
seen-ok see (Err d) y e = absurd cc

-- what was read is seen
pub ok-seen : {X Y : Type 0} (see : X → Y) (r : Outcome X) (x : X) → r ≡ read_as x → seen see r ≡ read_as (see x)
ok-seen see r x e = rw e refl

-- both readings succeeded
pub then-ok : {X Y : Type 0} (r : Outcome X) (next : X → Outcome Y) (y : Y) → (r >>= next) ≡ read_as y → (x : X) × (r ≡ read_as x) × (next x ≡ read_as y)
then-ok (Ok x) next y e = (x, refl, e)
then-ok (Err d) next y e = absurd cc

-- a test passed
pub passed-ok : {X : Type 0} (b : Bool) (d : DecodeError) (y x : X) → cond b (read_as y) (refused d) ≡ read_as x → (b ≡ true) × (y ≡ x)
passed-ok true d y x e = (refl, cc)
passed-ok false d y x e = absurd cc

-- a test refused nothing
pub kept-ok : {X : Type 0} (b : Bool) (d : DecodeError) (r : Outcome X) (x : X) → cond b (refused d) r ≡ read_as x → (b ≡ false) × (r ≡ read_as x)
kept-ok true d r x e = absurd cc
kept-ok false d r x e = (refl, e)

-- two values that were read are the same
pub ok-same : {X : Type 0} (x y : X) → read_as x ≡ read_as y → x ≡ y
ok-same x y e = cc

-- the first reading was refused, where the second never is
pub then-err : {X Y : Type 0} (r : Outcome X) (made : X → Y) (e : DecodeError) → (r >>= λ x. read_as (made x)) ≡ refused e → r ≡ refused e
then-err (Ok x) made e h = absurd cc
then-err (Err d) made e h = cc

-- two refusals are the same
pub err-same : (X : Type 0) (d e : DecodeError) → ◌≡◌ {A = Outcome X} (refused d) (refused e) → d ≡ e
err-same X d e h = cc
