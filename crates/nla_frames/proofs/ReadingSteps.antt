-- A list that is read in a loop: what was read, and what is left, make the outcome of the whole.
use Rattle.std.proofs.Common.{◌≡◌, ℕ, ◌<◌, ◌≤◌, ◌+◌, length, get_or, drop, map, List, [], ◌∷◌, ◌++◌, Ok, Err, refl, sym, ap, ◌∙◌, append_assoc}
use Rattle.std.proofs.lemmas.List.{append-nil, drop_more, drop_all}
use Rattle.nla_frames.specs.declared.error.DecodeError.{DecodeError}
use Rattle.nla_frames.specs.Fault.{Outcome, Returns, read_as, refused}
use Rattle.nla_frames.specs.Frame.{Frame}
use Rattle.nla_frames.specs.Cutting.{cut, items_of}
use Rattle.nla_frames.specs.Place.{Sets, kind_then}
use Rattle.nla_frames.specs.Reading.{Reads, before, read_each, read_list, whole}
use Rattle.nla_frames.proofs.Outcomes.{Returns-err, Returns-exact}

-- two values in front of what is read, at once or one after the other
before-before : {X : Type 0} (front : List X) (x : X) (others : Outcome (List X)) → before front (before (x ∷ []) others) ≡ before (front ++ x ∷ []) others
before-before front x (Ok xs) = ap (λ (ys : List _). read_as ys) (sym (append_assoc front (x ∷ []) xs))
before-before front x (Err e) = refl

before-nil : {X : Type 0} (others : Outcome (List X)) → before [] others ≡ others
before-nil (Ok xs) = refl
before-nil (Err e) = refl

module _ {X : Type 0} (reads : Reads X) (sets : Sets Frame) where
  -- nothing is read yet
  pub starts : (kind : List ℕ) (bytes : List ℕ) (front : List X) (items : List (Outcome Frame)) → front ≡ [] → items ≡ items_of (cut bytes)
      → before front (read_each reads sets kind items) ≡ read_list reads sets kind bytes
  unfolding read_list
  starts kind bytes front items none all = rw (none, all) (before-nil (read_each reads sets kind (items_of (cut bytes))))

  module _ (kind : List ℕ) (front : List X) (items : List (Outcome Frame)) (total : Outcome (List X))
      (so_far : before front (read_each reads sets kind items) ≡ total) where
    -- one value more
    pub goes_on : (f : Frame) (rest : List (Outcome Frame)) (x : X) → items ≡ Ok f ∷ rest → reads kind f ≡ Ok x
        → before (front ++ x ∷ []) (read_each reads sets (kind_then sets kind f) rest) ≡ total
    unfolding read_each
    goes_on f rest x next is_read =
        let others = read_each reads sets (kind_then sets kind f) rest in
        let one : before front (read_each reads sets kind items) ≡ before front (before (x ∷ []) others) = rw (next, is_read) refl in
        sym (before-before front x others) ∙ sym one ∙ so_far

    -- a broken frame
    pub breaks : (e : DecodeError) (rest : List (Outcome Frame)) → items ≡ Err e ∷ rest → Returns (refused e) total
    unfolding read_each
    breaks e rest next = Returns-exact e total (sym so_far ∙ rw next refl)

    -- a frame that is refused
    pub refuses : (e : DecodeError) (f : Frame) (rest : List (Outcome Frame)) → items ≡ Ok f ∷ rest → Returns (refused e) (reads kind f) → Returns (refused e) total
    unfolding read_each
    refuses e f rest next given = Returns-err e (reads kind f) total given (λ is. sym so_far ∙ rw (next, is) refl)

    -- nothing is left
    pub is_done : items ≡ [] → total ≡ Ok front
    unfolding read_each
    is_done none = sym so_far ∙ rw none (ap (λ (xs : List X). read_as xs) (append-nil front))

-- the frames from a place on, where the place has one, and where it has none
pub frames_more : {B : Type 0} (frame_of : B → Frame) (bs : List B) (i : ℕ) (b : B) → i < length bs → b ≡ get_or bs i b
    → whole (map frame_of (drop i bs)) ≡ Ok (frame_of b) ∷ whole (map frame_of (drop (i + 1) bs))
frames_more frame_of bs i b inside is = rw (drop_more bs i b inside, ← is) refl

pub frames_all : {B : Type 0} (frame_of : B → Frame) (bs : List B) (i : ℕ) → length bs ≤ i → whole (map frame_of (drop i bs)) ≡ []
frames_all frame_of bs i past = rw (drop_all i bs past) refl
