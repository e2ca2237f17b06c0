-- A scan of a list of frames that holds its own kind, and the reading after it.
use Rattle.std.proofs.Common.{◌≡◌, ℕ, ◌≤◌, List, [], ◌∷◌, ◌++◌, map, length, Option, Ok, Err, refl, sym, ap, subst, ◌∙◌, arith}
use Rattle.std.specs.Borrow.{Bor}
use Rattle.std.proofs.lemmas.List.{append-nil}
use Rattle.nla_frames.specs.declared.error.DecodeError.{DecodeError}
use Rattle.nla_frames.specs.declared.error.DecodeError.TheVariants.{MissingKind, DuplicateKind}
use Rattle.nla_frames.specs.declared.buffer.NlaBuffer.{NlaBuffer}
use Rattle.nla_frames.specs.declared.only_kind.OnlyKind.{OnlyKind}
use Rattle.nla_frames.specs.declared.only_kind.OnlyKind.TheVariants.{Missing, One, Several}
use Rattle.nla_frames.specs.Fault.{Outcome, Returns, refused, ◌>>=◌}
use Rattle.nla_frames.specs.Frame.{Frame}
use Rattle.nla_frames.specs.Buffer.{frame_of}
use Rattle.nla_frames.specs.Cutting.{cut, items_of}
use Rattle.nla_frames.specs.Place.{kind_before}
use Rattle.nla_frames.specs.Reading.{Reads, before, read_each, read_list, keep, whole}
use Rattle.nla_frames.specs.OnlyKind.{text_set, Summarizes}
use Rattle.nla_frames.proofs.Outcomes.{Returns-err, Returns-exact}
use Rattle.nla_frames.proofs.OwnKinds.{kinds_set-append}
use Rattle.nla_frames.proofs.ReadingSteps.{starts, goes_on, breaks, refuses, is_done}
use Rattle.tc_meaning.specs.Own.{only_kind, read_own}
use Rattle.tc_meaning.specs.OwnGrammar.{first_look, kinds_found}
use Rattle.tc_meaning.proofs.OwnGrammarLaws.{after_look, read_own-look}
use Rattle.tc_actions.specs.Scan.{Scanned}

-- these frames are cut, and these are left
pub record ScannedSoFar (bytes : List ℕ) (left : List (Outcome Frame)) (frames : List NlaBuffer) (only : OnlyKind) : Type 0 where
  pub looks : List (Option (List ℕ))
  pub looked : before looks (read_each first_look keep [] left) ≡ read_list first_look keep [] bytes
  pub kinds : Summarizes only (kinds_found looks)
  pub parts : items_of (cut bytes) ≡ whole (map frame_of frames) ++ left

-- a frame is the last that is cut, or the first that is left
whole-more : (frames : List NlaBuffer) (frame : NlaBuffer) (rest : List (Outcome Frame))
    → whole (map frame_of frames) ++ Ok (frame_of frame) ∷ rest ≡ whole (map frame_of (frames ++ frame ∷ [])) ++ rest
whole-more [] frame rest = refl
whole-more (f ∷ frames) frame rest = ap (λ (items : List (Outcome Frame)). Ok (frame_of f) ∷ items) (whole-more frames frame rest)

pub scan_starts : (bytes : List ℕ) (frames : List NlaBuffer) (left : List (Outcome Frame)) → frames ≡ [] → left ≡ items_of (cut bytes)
    → ScannedSoFar bytes left frames Missing
scan_starts bytes frames left none all = record {
  looks = [];
  looked = starts first_look keep [] bytes [] left refl all;
  kinds = refl;
  parts = rw none (sym all);
}

module _ (bytes : List ℕ) (left : List (Outcome Frame)) (frames : List NlaBuffer) (only : OnlyKind) (so_far : ScannedSoFar bytes left frames only) where
  -- a broken frame
  pub scan_breaks : (e : DecodeError) (rest : List (Outcome Frame)) → left ≡ Err e ∷ rest → Returns (refused e) (read_list first_look keep [] bytes)
  scan_breaks e rest next = breaks first_look keep [] so_far.looks left _ so_far.looked e rest next

  -- a kind that isn't UTF-8
  pub scan_refuses : (e : DecodeError) (f : Frame) (rest : List (Outcome Frame)) → left ≡ Ok f ∷ rest → refused e ≡ first_look [] f
      → Returns (refused e) (read_list first_look keep [] bytes)
  scan_refuses e f rest next is = refuses first_look keep [] so_far.looks left _ so_far.looked e f rest next (Returns-exact e (first_look [] f) (sym is))

  -- a frame more
  pub scan_next : (frame : NlaBuffer) (rest : List (Outcome Frame)) (set : Option (Bor (List ℕ))) (more : List NlaBuffer) (next : OnlyKind)
      → left ≡ Ok (frame_of frame) ∷ rest → first_look [] (frame_of frame) ≡ Ok (text_set set)
      → ((kinds : List (List ℕ)) → Summarizes only kinds → Summarizes next (kinds ++ kind_before (text_set set) [])) → more ≡ frames ++ frame ∷ []
      → ScannedSoFar bytes rest more next
  scan_next frame rest set more next first look and_kinds pushed = record {
    looks = so_far.looks ++ text_set set ∷ [];
    looked = goes_on first_look keep [] so_far.looks left _ so_far.looked (frame_of frame) rest (text_set set) first look;
    kinds = subst (Summarizes next) (sym (kinds_set-append (λ look. look) so_far.looks (text_set set))) (and_kinds _ so_far.kinds);
    parts = so_far.parts ∙ ap (λ items. whole (map frame_of frames) ++ items) first ∙ whole-more frames frame rest
        ∙ ap (λ (fs : List NlaBuffer). whole (map frame_of fs) ++ rest) (sym pushed);
  }

  -- no frame more
  pub scan_done : left ≡ [] → Scanned bytes frames only
  scan_done none = record {
    looks = so_far.looks;
    looked = is_done first_look keep [] so_far.looks left _ so_far.looked none;
    kinds = so_far.kinds;
    are_all = so_far.parts ∙ ap (λ items. whole (map frame_of frames) ++ items) none ∙ append-nil (whole (map frame_of frames));
  }

module _ {X : Type 0} (reads : Reads X) (bytes : List ℕ) where
  -- the reading under the kinds that were found
  under : List (List ℕ) → Outcome (List X)
  under kinds = only_kind kinds >>= λ kind. read_list reads keep kind bytes

  -- the fault of the scan is the first
  pub scan_fault : (e : DecodeError) → Returns (refused e) (read_list first_look keep [] bytes) → Returns (refused e) (read_own reads bytes)
  scan_fault e given = Returns-err e _ _ given (λ is. read_own-look reads bytes ∙ ap (after_look reads bytes) is)

  module _ (frames : List NlaBuffer) (only : OnlyKind) (scanned : Scanned bytes frames only) where
    after_scan : read_own reads bytes ≡ under (kinds_found scanned.looks)
    unfolding under
    after_scan = read_own-look reads bytes ∙ ap (after_look reads bytes) scanned.looked

    pub own_missing : only ≡ Missing → read_own reads bytes ≡ refused MissingKind
    unfolding under
    own_missing is =
        let none : kinds_found scanned.looks ≡ [] = rw is at scanned.kinds in
        after_scan ∙ ap under none

    pub own_one : (kind : Bor (List ℕ)) → only ≡ One kind → read_own reads bytes ≡ read_each reads keep kind.now (whole (map frame_of frames))
    unfolding under read_list
    own_one kind is =
        let one : kinds_found scanned.looks ≡ kind.now ∷ [] = rw is at scanned.kinds in
        after_scan ∙ ap under one ∙ ap (read_each reads keep kind.now) scanned.are_all

    pub own_several : only ≡ Several → read_own reads bytes ≡ refused DuplicateKind
    unfolding under
    own_several is =
        let more : 2 ≤ length (kinds_found scanned.looks) = rw is at scanned.kinds in
        after_scan ∙ several (kinds_found scanned.looks) more
      where
        several : (kinds : List (List ℕ)) → 2 ≤ length kinds → under kinds ≡ refused DuplicateKind
        several [] more = absurd (omega (arith, more))
        several (a ∷ []) more = absurd (omega (arith, more))
        several (a ∷ b ∷ kinds) more = refl
