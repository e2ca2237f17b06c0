-- Floats with the same bits.
use Rattle.std.proofs.Common.{◌≡◌, Bool, true, false, refl, ap, sym, ◌∙◌, subst}
use lib.Dec.{T}
use lib.Ieee.{Float, nan, inf, fin, is_nan, fits, to_bits, of_bits, binary64}
use lib.Ieee.Bits.{of_bits-to_bits}

is_the_nan : (x : Float) → is_nan x ≡ true → x ≡ nan
unfolding is_nan
is_the_nan nan e = refl
is_the_nan (inf s) e = cc
is_the_nan (fin s m k) e = cc

pub both_nan : (x y : Float) → is_nan x ≡ true → is_nan y ≡ true → x ≡ y
both_nan x y e f = is_the_nan x e ∙ sym (is_the_nan y f)

pub same_bits : (x y : Float) → fits binary64 x ≡ true → fits binary64 y ≡ true → to_bits binary64 x ≡ to_bits binary64 y → x ≡ y
same_bits x y e f h =
    sym (of_bits-to_bits binary64 x (subst T (sym e) tt)) ∙ ap (of_bits binary64) h ∙ of_bits-to_bits binary64 y (subst T (sym f) tt)
