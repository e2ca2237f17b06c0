-- How bytes become canonical by rewriting them: the laws of rewriting, for any table.
use Rattle.std.proofs.Common.{◌≡◌, ◌↔◌, ℕ, zero, suc, ◌-◌, ◌<◌, Bool, true, false, List, [], ◌∷◌, length, Ok, refl, sym, ap, subst, ◌∙◌, arith}
use Rattle.std.specs.List.{AllByRecursion, list_any}
use Rattle.std.specs.Prelude.{◌||◌}
use Rattle.nla_frames.specs.Fault.{read_as}
use Rattle.nla_frames.specs.Codec.{Codec, Laws, IsWireBytes}
use Rattle.nla_frames.specs.Frame.{Frame}
use Rattle.nla_frames.specs.Place.{Sets}
use Rattle.tc_canon.specs.Descriptor.{Field, Rows}
use Rattle.tc_meaning.specs.Tree.{Attribute}
use Rattle.tc_meaning.specs.Message.{Message, message_codec}
use Rattle.tc_meaning.specs.Whole.{Words, words_of}
use Rattle.tc_meaning.proofs.MessageLaws.{one_message}
use Rattle.tc_meaning.proofs.MessageTheorems.{correspond}
use Rattle.tc_laws.specs.Norm.{next as next_of, norm as norm_of}
use Rattle.tc_laws.specs.Loose.{Part, is_loose_part, is_loose, message_parts}
use Rattle.tc_laws.specs.Rewriting.{Rewrites, RewritesTimes, SettlesAs, SettlesIn, Ends, Rewriting}
use Rattle.tc_meaning.proofs.Outcomes.{ok-same}
use Rattle.tc_laws.proofs.MostNuls.{most}
use Rattle.tc_laws.proofs.TrimLaws.{TrimLaws, most-whole, whole-most, message_trims}
use Rattle.tc_laws.proofs.RewriteValues.{RewriteLaws, IsSettledPart}

-- no part is loose
pub none_loose : (ps : List Part) → AllByRecursion IsSettledPart ps ↔ (list_any is_loose_part ps ≡ false)
none_loose [] = (λ all. refl, λ e. tt)
none_loose (p ∷ ps) = go (is_loose_part p) refl (none_loose ps)
  where
    go : (b : Bool) → is_loose_part p ≡ b → AllByRecursion IsSettledPart ps ↔ (list_any is_loose_part ps ≡ false)
        → ((is_loose_part p ≡ false) × AllByRecursion IsSettledPart ps) ↔ ((b || list_any is_loose_part ps) ≡ false)
    go true e later = (λ all. let no : true ≡ false = sym e ∙ all.0 in absurd cc, λ no. absurd cc)
    go false e later = (λ all. later.0 all.1, λ no. (e, later.1 no))

module _ (by_frame : Sets Frame) (by_value : Sets Attribute) (layout : List Field) (rows : Rows) (Canon : List ℕ → Type 0)
    (laws : Laws IsWireBytes (message_codec by_frame by_value layout rows) (λ kind bytes. Canon bytes))
    (r : RewriteLaws IsWireBytes length (message_codec by_frame by_value layout rows) (next_of rows) (message_parts rows)) where
  abbrev c : Codec (List ℕ) Message
  c = message_codec by_frame by_value layout rows

  abbrev words : Words Message
  words = words_of by_frame by_value layout rows Canon

  abbrev next : Message → Message
  next = next_of rows

  abbrev norm : Message → Message
  norm = norm_of rows

  abbrev parts : Message → List Part
  parts = message_parts rows

  trims : TrimLaws next norm parts
  trims = message_trims rows

  -- reading is the grammar
  reads-is : (bytes : List ℕ) (m : Message) → IsWireBytes bytes → (c.read [] bytes ≡ Ok m) ↔ words.Reads bytes m
  reads-is bytes m w = (one_message by_frame layout rows bytes w.are_bytes).reading m

  -- after so many rewritings, the message and the bytes that read as it
  after : Message → ℕ → Message
  after m zero = m
  after m (suc n) = next (after m n)

  bytes_after : List ℕ → Message → ℕ → List ℕ
  bytes_after bytes m zero = bytes
  bytes_after bytes m (suc n) = c.write (after m n)

  -- the bytes of a slice that read as a message that fits
  record IsRead (bytes : List ℕ) (m : Message) : Type 0 where
    pub wire : IsWireBytes bytes
    pub reads : c.read [] bytes ≡ Ok m
    pub fits : c.Fits m

  is_read : (bytes : List ℕ) (m : Message) → IsWireBytes bytes → words.Reads bytes m → c.Fits m → IsRead bytes m
  is_read bytes m w g f = record { wire = w; reads = (reads-is bytes m w).1 g; fits = f }

  typed : (bytes : List ℕ) (m : Message) → IsRead bytes m → c.Typed m
  typed bytes m is = laws.typed [] bytes m is.wire is.reads

  -- so do the bytes of that message, as the next one
  is_read-next : (bytes : List ℕ) (m : Message) → IsRead bytes m → IsRead (c.write m) (next m)
  is_read-next bytes m is = record {
    wire = laws.makes m (typed bytes m is) is.fits;
    reads = r.again [] bytes m is.wire is.reads is.fits;
    fits = r.fits m is.fits;
  }

  is_read-after : (bytes : List ℕ) (m : Message) → IsRead bytes m → (n : ℕ) → IsRead (bytes_after bytes m n) (after m n)
  unfolding after bytes_after
  is_read-after bytes m is zero = is
  is_read-after bytes m is (suc n) = is_read-next (bytes_after bytes m n) (after m n) (is_read-after bytes m is n)

  left-after : (m : Message) (n : ℕ) → most (parts (after m n)) ≡ most (parts m) - n
  unfolding after
  left-after m zero = omega arith
  left-after m (suc n) = let one = trims.left (after m n) in let before = left-after m n in omega (arith, one, before)

  norm-after : (m : Message) (n : ℕ) → norm (after m n) ≡ norm m
  unfolding after
  norm-after m zero = refl
  norm-after m (suc n) = trims.twice (after m n) ∙ norm-after m n

  -- written bytes are canonical exactly when no warning ends in NUL
  canon-whole : (bytes : List ℕ) (m : Message) → IsRead bytes m → Canon (c.write m) ↔ (most (parts m) ≡ 0)
  canon-whole bytes m is =
      let there = is_read-next bytes m is in
      let law = laws.same [] (c.write m) (next m) there.wire there.reads there.fits in (
        (λ canon. whole-most (parts m) (r.same m (typed bytes m is) is.fits (law.1 canon))),
        (λ none. law.0 (r.whole m (most-whole (parts m) none))),
      )

  -- canonical bytes read as a message that is its own norm
  canon-norm : (bytes : List ℕ) (m : Message) → IsRead bytes m → Canon bytes → norm m ≡ m
  canon-norm bytes m is canon =
      let whole = (laws.same [] bytes m is.wire is.reads is.fits).1 canon in
      let none = (canon-whole bytes m is).0 (subst Canon (sym whole) canon) in
      let same : next m ≡ m = ok-same (next m) m (sym (r.again [] bytes m is.wire is.reads is.fits) ∙ ap (c.read []) whole ∙ is.reads) in
      sym (trims.once m (most-whole (parts m) none)) ∙ same

  -- after all its NULs and one more the message is its norm, and the bytes are canonical
  last-norm : (m : Message) → after m (suc (most (parts m))) ≡ norm m
  unfolding after
  last-norm m =
      let n = most (parts m) in
      let none : most (parts (after m (most (parts m)))) ≡ 0 = let h = left-after m (most (parts m)) in omega (arith, h) in
      trims.once (after m (most (parts m))) (most-whole (parts (after m (most (parts m)))) none) ∙ norm-after m (most (parts m))

  last : List ℕ → Message → List ℕ
  last bytes m = bytes_after bytes m (suc (most (parts m)))

  last-canon : (bytes : List ℕ) (m : Message) → IsRead bytes m → Canon (last bytes m)
  unfolding last bytes_after
  last-canon bytes m is =
      let none : most (parts (after m (most (parts m)))) ≡ 0 = let h = left-after m (most (parts m)) in omega (arith, h) in
      (canon-whole (bytes_after bytes m (most (parts m))) (after m (most (parts m))) (is_read-after bytes m is (most (parts m)))).1 none

  last-read : (bytes : List ℕ) (m : Message) → IsRead bytes m → IsRead (last bytes m) (norm m)
  unfolding last
  last-read bytes m is = subst (IsRead (last bytes m)) (last-norm m) (is_read-after bytes m is (suc (most (parts m))))

  -- the norm is typed if the message is, and fits if the message does
  norm-typed : (m : Message) → c.Typed m → c.Typed (norm m)
  unfolding after
  norm-typed m t = subst c.Typed (last-norm m) (go (suc (most (parts m))))
    where
      go : (n : ℕ) → c.Typed (after m n)
      go zero = t
      go (suc n) = r.typed (after m n) (go n)

  norm-fits : (m : Message) → c.Fits m → c.Fits (norm m)
  unfolding after
  norm-fits m f = subst c.Fits (last-norm m) (go (suc (most (parts m))))
    where
      go : (n : ℕ) → c.Fits (after m n)
      go zero = f
      go (suc n) = r.fits (after m n) (go n)

  -- ---- rewriting

  -- bytes are rewritten in one way at most
  rewrites-once : (bytes written written' : List ℕ) → IsWireBytes bytes → Rewrites words bytes written → Rewrites words bytes written' → written ≡ written'
  rewrites-once bytes written written' w a b =
      let same : a.message ≡ b.message = ok-same a.message b.message (sym ((reads-is bytes a.message w).1 a.reads) ∙ (reads-is bytes b.message w).1 b.reads) in
      a.is ∙ ap c.write same ∙ sym b.is

  -- what is read and fits is rewritten as its bytes
  rewrites : (bytes : List ℕ) (m : Message) → IsRead bytes m → Rewrites words bytes (c.write m)
  rewrites bytes m is = record { message = m; reads = (reads-is bytes m is.wire).0 is.reads; fits = is.fits; is = refl }

  reached : (bytes : List ℕ) (m : Message) → IsRead bytes m → (n : ℕ) → RewritesTimes words n bytes (bytes_after bytes m n)
  unfolding bytes_after
  reached bytes m is zero = refl
  reached bytes m is (suc n) = (bytes_after bytes m n, reached bytes m is n, rewrites (bytes_after bytes m n) (after m n) (is_read-after bytes m is n))

  reached-is : (bytes : List ℕ) (m : Message) → IsRead bytes m → (n : ℕ) (written : List ℕ) → RewritesTimes words n bytes written
      → written ≡ bytes_after bytes m n
  unfolding bytes_after reached
  reached-is bytes m is zero written h = h
  reached-is bytes m is (suc n) written h =
      let between : h.0 ≡ bytes_after bytes m n = reached-is bytes m is n h.0 h.1 in
      let here = is_read-after bytes m is n in
      let ours = (reached bytes m is (suc n)).2 in
      rewrites-once (bytes_after bytes m n) written (c.write (after m n)) here.wire (subst (λ (b : List ℕ). Rewrites words b written) between h.2) ours

  no-sooner : (bytes : List ℕ) (m : Message) → IsRead bytes m → (Canon bytes → ⊥) → (n : ℕ) → n < suc (most (parts m)) → Canon (bytes_after bytes m n) → ⊥
  unfolding bytes_after
  no-sooner bytes m is not zero less canon = not canon
  no-sooner bytes m is not (suc n) less canon =
      let none = (canon-whole (bytes_after bytes m n) (after m n) (is_read-after bytes m is n)).0 canon in
      let left = left-after m n in
      omega (arith, less, none, left)

  -- bytes that aren't canonical become so after as many rewrites as NULs end a warning and one more, and no sooner
  settles : (bytes : List ℕ) (m : Message) → IsRead bytes m → (Canon bytes → ⊥) → SettlesIn words (suc (most (parts m))) bytes (last bytes m) (norm m)
  unfolding last
  settles bytes m is not =
      let there = last-read bytes m is in
      record {
        reached = reached bytes m is (suc (most (parts m)));
        canonical = last-canon bytes m is;
        reads = (reads-is (last bytes m) (norm m) there.wire).0 there.reads;
        no_sooner = λ n written less h canon. no-sooner bytes m is not n less (subst Canon (reached-is bytes m is n written h) canon);
      }

  -- canonical bytes are so after none
  settles-at_once : (bytes : List ℕ) (m : Message) → IsRead bytes m → Canon bytes → SettlesIn words 0 bytes bytes (norm m)
  settles-at_once bytes m is canon = record {
    reached = refl;
    canonical = canon;
    reads = subst (words.Reads bytes) (sym (canon-norm bytes m is canon)) ((reads-is bytes m is.wire).0 is.reads);
    no_sooner = λ n written less h c. absurd (omega (arith, less));
  }

  -- at last they do
  settles-as : (bytes : List ℕ) (m : Message) → IsRead bytes m → (final : List ℕ) × SettlesAs words bytes final × words.Reads final (norm m)
  unfolding last
  settles-as bytes m is =
      let there = last-read bytes m is in (
        last bytes m,
        record { count = suc (most (parts m)); reached = reached bytes m is (suc (most (parts m))); canonical = last-canon bytes m is },
        (reads-is (last bytes m) (norm m) there.wire).0 there.reads,
      )

  -- what bytes settle as is the bytes of the norm, and reads as it
  record IsFinal (final : List ℕ) (m : Message) : Type 0 where
    reads : c.read [] final ≡ Ok m
    whole : c.write m ≡ final

  settled-is : (bytes final : List ℕ) (m : Message) → IsRead bytes m → SettlesAs words bytes final → IsFinal final (norm m)
  settled-is bytes final m is s =
      let here = is_read-after bytes m is s.count in
      let same = reached-is bytes m is s.count final s.reached in
      let canon = subst Canon same s.canonical in
      let own : after m s.count ≡ norm m = sym (canon-norm (bytes_after bytes m s.count) (after m s.count) here canon) ∙ norm-after m s.count in
      let whole = (laws.same [] (bytes_after bytes m s.count) (after m s.count) here.wire here.reads here.fits).1 canon in
      record { reads = ap (c.read []) same ∙ here.reads ∙ ap (λ (y : Message). read_as y) own; whole = ap c.write (sym own) ∙ whole ∙ sym same }

  -- two byte lists settle as the same bytes exactly when their readings have the same norm
  pub same-norm : (bytes bytes' : List ℕ) → IsWireBytes bytes → IsWireBytes bytes' → (m m' : Message) (final final' : List ℕ)
      → Ends words bytes m final → Ends words bytes' m' final'
      → (final ≡ final') ↔ (norm m ≡ norm m')
  same-norm bytes bytes' w w' m m' final final' e e' =
      let a = settled-is bytes final m (is_read bytes m w e.reads e.fits) e.settles in
      let b = settled-is bytes' final' m' (is_read bytes' m' w' e'.reads e'.fits) e'.settles in (
        (λ same. ok-same (norm m) (norm m') (sym a.reads ∙ ap (c.read []) same ∙ b.reads)),
        (λ same. sym a.whole ∙ ap c.write same ∙ b.whole),
      )

  -- what is written reads as the next message
  pub next-read : (bytes : List ℕ) → IsWireBytes bytes → (m : Message) → words.Reads bytes m → c.Fits m → words.Reads (c.write m) (next m)
  next-read bytes w m g f =
      let there = is_read-next bytes m (is_read bytes m w g f) in
      (reads-is (c.write m) (next m) there.wire).0 there.reads

  -- it is canonical exactly when no warning ended in NUL
  pub canonical-next : (bytes : List ℕ) → IsWireBytes bytes → (m : Message) → words.Reads bytes m → c.Fits m → Canon (c.write m) ↔ (most (parts m) ≡ 0)
  canonical-next bytes w m g f = canon-whole bytes m (is_read bytes m w g f)

  -- all that is promised of rewriting
  pub rewriting : (count : Message → ℕ) → ((m : Message) → suc (most (parts m)) ≡ count m)
      → ((bytes : List ℕ) → IsWireBytes bytes → (m : Message) → words.Reads bytes m → words.Settled (norm m))
      → (bytes : List ℕ) → IsWireBytes bytes → Rewriting words (is_loose rows) norm count bytes
  rewriting count is norm-settled bytes w = record {
    loose = λ m g.
        let law = r.settled [] bytes m w ((reads-is bytes m w).1 g) in
        let none = none_loose (parts m) in
        (λ s. none.0 (law.0 s), λ e. law.1 (none.1 e));
    norm_typed = norm-typed;
    norm_fits = norm-fits;
    norm_settled = norm-settled bytes w;
    norm_canonical = λ m g f.
        (correspond by_frame by_value layout rows Canon laws bytes w).settled (norm m)
        (norm-typed m (typed bytes m (is_read bytes m w g f))) (norm-fits m f) (norm-settled bytes w m g);
    canonical = λ m g f canon. canon-norm bytes m (is_read bytes m w g f) canon;
    one_way = λ c d. rewrites-once bytes c d w;
    at_once = λ m g f canon. settles-at_once bytes m (is_read bytes m w g f) canon;
    settles = λ m g f not.
        (last bytes m, subst (λ (n : ℕ). SettlesIn words n bytes (last bytes m) (norm m)) (is m) (settles bytes m (is_read bytes m w g f) not));
    last = λ m g f. settles-as bytes m (is_read bytes m w g f);
  }
