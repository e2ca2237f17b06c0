-- Handles as text. A handle is a 32-bit number: major number in the upper half, minor number in the lower.
use Rattle.std.specs.Prelude.{ℕ, ◌+◌, ◌*◌, ◌/◌, ◌%◌, List, [], ◌++◌, length, codes, bytes_eq, nat_lt, nat_le, ◌==◌, ◌&&◌, Option, Some, None, if◌then◌else◌}
use Rattle.std.specs.List.{list_all, position_or_len, before_first, after_first}
use Rattle.std.specs.Char.{is_digit}
use Rattle.std.specs.Str.Parse.{digits_value}
use Rattle.std.specs.Net.Text.{hex}

-- half of a handle: lower-case hex without leading zeros, and nothing for 0
abbrev pub half_text : ℕ → List ℕ
half_text n = if n == 0 then [] else hex n

-- a handle as `tc` writes it: `1:10`, `8001:` if the minor number is 0, `:10` if the major is, and `root` for
-- FFFF:FFFF. 0 is `0:0`, for which `tc` writes `none` or nothing.
unfoldable pub handle_text : ℕ → List ℕ
handle_text n =
    if n == 0 then codes "0:0"
    else if n == 0xffffffff then codes "root"
    else half_text (n / 0x10000) ++ codes ":" ++ half_text (n % 0x10000)

-- half of a handle: up to four hex digits in either case; no digits are 0
unfoldable pub half_of : List ℕ → Option ℕ
half_of text =
    if nat_le (length text) 4 && list_all (λ c. is_digit c 16) text then Some (digits_value 16 text) else None

-- a handle, if both halves parse
abbrev pub halves : Option ℕ → Option ℕ → Option ℕ
halves (Some major) (Some minor) = Some (major * 0x10000 + minor)
halves _ _ = None

-- a text with a colon: one half before the first colon, one after it
abbrev pub numbers_of : List ℕ → Option ℕ
numbers_of text =
    if nat_lt (position_or_len (λ c. c == 58) text) (length text)
    then halves (half_of (before_first (λ c. c == 58) text)) (half_of (after_first (λ c. c == 58) text)) else None

-- a handle as `tc` reads class identifiers (`get_tc_classid` of iproute2): `root`, `none` for 0, or major and minor
-- number around a colon, either of which may be missing. `ingress` and `clsact` are FFFF:FFF1, as in `tc qdisc`. `None`
-- for more than four digits, `0x`, signs, blanks, and a number without a colon, which `tc` reads as a major number in
-- one place and as a handle in another.
unfoldable pub handle_of : List ℕ → Option ℕ
handle_of text =
    if bytes_eq text (codes "root") then Some 0xffffffff
    else if bytes_eq text (codes "ingress") then Some 0xfffffff1
    else if bytes_eq text (codes "clsact") then Some 0xfffffff1
    else if bytes_eq text (codes "none") then Some 0
    else numbers_of text
