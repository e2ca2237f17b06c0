-- The piece at the front of some bytes doesn't change when more bytes follow, unless it needs them.
use Rattle.std.proofs.Common.{◌≡◌, ◌⊎◌, inl, inr, ℕ, ◌+◌, ◌-◌, ◌*◌, ◌%◌, ◌≤◌, List, ◌++◌, length, take, drop, Option, Some, None, Ok, Err, Bool, true, false}
use Rattle.std.proofs.Common.{refl, sym, ap, ap₂, subst, ◌∙◌, arith}
use Rattle.std.specs.Prelude.{nat_lt, nat_le, ◌==◌, ◌&&◌, if◌then◌else◌}
use Rattle.std.proofs.lemmas.Bool.{ltb-false, leb-true, le-ltb}
use Rattle.std.proofs.lemmas.List.{length-append, length-drop, take-append-le, drop-append-le}
use Rattle.byteorder.specs.Endian.{little_number, big_number}
use Rattle.byteorder.specs.Numbers.{big_from-append, little_from-append}
use Rattle.tc_capture.specs.declared.error.CaptureError.{CaptureError}
use Rattle.tc_capture.specs.declared.error.CaptureError.TheVariants.{Short, MessageTooShort, NoByteOrder, BlockLength, BlockEnd}
use Rattle.tc_capture.specs.declared.order.Order.{Order}
use Rattle.tc_capture.specs.declared.order.Order.TheVariants.{Little, Big}
use Rattle.tc_capture.specs.declared.packet.Link.TheVariants.{Plain}
use Rattle.tc_capture.specs.declared.pcap.Pcap.{Pcap as PcapFile}
use Rattle.tc_capture.specs.declared.pcap.Variant.{Variant}
use Rattle.tc_capture.specs.declared.pcap.Variant.TheVariants.{Microseconds, Nanoseconds, Modified}
use Rattle.tc_capture.specs.declared.time.Time.{Time}
use Rattle.tc_capture.specs.Outcome.{Outcome, then_read}
use Rattle.tc_capture.specs.Order.{number}
use Rattle.tc_capture.specs.Time.{time_of}
use Rattle.tc_capture.specs.Message.{length_at, padding}
use Rattle.tc_capture.specs.Packet.{Captured, link_of}
use Rattle.tc_capture.specs.Front.{Front}
use Rattle.tc_capture.specs.Stream.{is_time, front_of_length, next_in_stream}
use Rattle.tc_capture.specs.Pcap.{variant_of, in_order, magic_at, header_with, ticks_per_second, record_header_len, packet_of_length, pcap_header, next_in_pcap}
use Rattle.tc_capture.specs.PcapNg.{Section, Block, block_order, block_of_length, block_in, next_block, next_in_section}
use Rattle.tc_capture.specs.Capture.{State, in_stream, before_header, in_pcap, in_section, next_piece}
use Rattle.tc_capture_laws.specs.Fronts.{NeedsMore}

-- of some bytes, and of them with more behind them
abbrev pub Stays : {X : Type 0} → Outcome X → Outcome X → Type 0
Stays o p = NeedsMore o ⊎ (p ≡ o)

then-stays : {X Y : Type 0} (o p : Outcome X) (f : X → Outcome Y) → Stays o p → Stays (then_read o f) (then_read p f)
then-stays (Ok x) p f (inl more) = absurd more
then-stays (Ok x) p f (inr same) = inr (ap (λ o. then_read o f) same)
then-stays (Err e) p f (inl more) = inl more
then-stays (Err e) p f (inr same) = inr (ap (λ o. then_read o f) same)

-- the same test of both
test-stays : {X : Type 0} (b : Bool) (e : CaptureError) (o p : Outcome X) → (b ≡ false → Stays o p) → Stays (if b then Err e else o) (if b then Err e else p)
test-stays true e o p later = inr refl
test-stays false e o p later = later refl

variant_len : (v : Variant) → 16 ≤ record_header_len v
variant_len Microseconds = omega arith
variant_len Nanoseconds = omega arith
variant_len Modified = omega arith

module _ (xs ys : List ℕ) where
  -- a number within the bytes
  number-more : (order : Order) (n k : ℕ) → k + n ≤ length xs → number order n (drop k (xs ++ ys)) ≡ number order n (drop k xs)
  number-more Little n k within =
      ap (little_number n) (drop-append-le k xs ys (omega arith)) ∙ little_from-append n (drop k xs) ys (omega (arith, length-drop k xs))
  number-more Big n k within =
      ap (big_number n) (drop-append-le k xs ys (omega arith)) ∙ big_from-append n (drop k xs) ys (omega (arith, length-drop k xs))

  -- the test that so many bytes are there
  there-stays : {X : Type 0} (k : ℕ) (o p : Outcome X) (b : Bool) → nat_lt (length xs) k ≡ b → (k ≤ length xs → Stays o p)
      → Stays (if nat_lt (length xs) k then Err (Short k (length xs)) else o) (if nat_lt (length (xs ++ ys)) k then Err (Short k (length (xs ++ ys))) else p)
  there-stays k o p true is later = rw is (inl tt)
  there-stays k o p false is later =
      let here : k ≤ length xs = ltb-false (length xs) k is in
      let there : nat_lt (length (xs ++ ys)) k ≡ false = le-ltb (length (xs ++ ys)) k (omega (arith, length-append xs ys)) in
      rw (is, there) (later here)

  -- ---- a stream

  module _ (time : Option Time) where
    abbrev rest_of_stream : ℕ → List ℕ → Outcome (Front × Option Time)
    rest_of_stream l bytes =
        if nat_lt l 16 then Err (MessageTooShort l) else
        if nat_lt (length bytes) (l + padding l) then Err (Short (l + padding l) (length bytes)) else Ok (front_of_length (l + padding l) time bytes)

    front-stays : (n : ℕ) → 16 ≤ length xs → n ≤ length xs → length_at xs ≤ n → (b : Bool) → is_time xs ≡ b
        → front_of_length n time (xs ++ ys) ≡ front_of_length n time xs
    front-stays n header within long b is =
        let kind : little_number 2 (drop 4 (xs ++ ys)) ≡ little_number 2 (drop 4 xs) = number-more Little 2 4 (omega arith) in
        let len : length_at (xs ++ ys) ≡ length_at xs = number-more Little 4 0 (omega arith) in
        let same : is_time (xs ++ ys) ≡ is_time xs = ap₂ (λ (k l : ℕ). k == 15 && nat_le 24 l) kind len in
        by b is (same ∙ is)
      where
        all : (a b : Bool) → (a && b) ≡ true → b ≡ true
        all true b e = e
        all false b e = absurd cc

        by : (b : Bool) → is_time xs ≡ b → is_time (xs ++ ys) ≡ b → front_of_length n time (xs ++ ys) ≡ front_of_length n time xs
        by false is same = rw (is, same) (ap (λ (front : List ℕ). (
          record {
            used = n;
            packet = Ok
                (Some (record { time = time; link = Plain; is_whole = true; at = 0; bytes = front }));
          },
          time,
        )) (take-append-le n xs ys within))
        by true is same =
            let enough : 24 ≤ length_at xs = leb-true 24 (length_at xs) (all (little_number 2 (drop 4 xs) == 15) (nat_le 24 (length_at xs)) is) in
            let seconds : little_number 4 (drop 16 (xs ++ ys)) ≡ little_number 4 (drop 16 xs) = number-more Little 4 16 (omega arith) in
            let part : little_number 4 (drop 20 (xs ++ ys)) ≡ little_number 4 (drop 20 xs) = number-more Little 4 20 (omega arith) in
            rw (is, same) (ap₂ (λ (s m : ℕ). (record { used = n; packet = Ok None }, Some (time_of (s * 1000000 + m) 1000000))) seconds part)

    stream-stays : Stays (next_in_stream time xs) (next_in_stream time (xs ++ ys))
    unfolding next_in_stream
    stream-stays =
        there-stays 16 (rest_of_stream (length_at xs) xs) (rest_of_stream (length_at (xs ++ ys)) (xs ++ ys)) _ refl (λ header.
        let len : length_at (xs ++ ys) ≡ length_at xs = number-more Little 4 0 (omega arith) in
        let l = length_at xs in
        subst (λ (k : ℕ). Stays (rest_of_stream l xs) (rest_of_stream k (xs ++ ys))) (sym len)
        (test-stays (nat_lt l 16) (MessageTooShort l) _ _ (λ enough.
        there-stays (l + padding l) (Ok (front_of_length (l + padding l) time xs)) (Ok (front_of_length (l + padding l) time (xs ++ ys))) _ refl (λ within.
        inr (ap (λ (x : Front × Option Time). Ok x) (front-stays (l + padding l) header within (omega arith) _ refl))))))

  -- ---- pcap

  module _ (file : PcapFile) where
    abbrev rest_of_pcap : ℕ → List ℕ → Outcome Front
    rest_of_pcap n bytes =
        let header = record_header_len file.variant in
        if nat_lt (length bytes) (header + n) then Err (Short (header + n) (length bytes)) else
        Ok (record { used = header + n; packet = Ok (Some (packet_of_length file n bytes)) })

    packet-stays : (n : ℕ) → record_header_len file.variant + n ≤ length xs → packet_of_length file n (xs ++ ys) ≡ packet_of_length file n xs
    packet-stays n within =
        let units = ticks_per_second file.variant in
        let header = record_header_len file.variant in
        let least = variant_len file.variant in
        let seconds : number file.order 4 (xs ++ ys) ≡ number file.order 4 xs = number-more file.order 4 0 (omega arith) in
        let part : number file.order 4 (drop 4 (xs ++ ys)) ≡ number file.order 4 (drop 4 xs) = number-more file.order 4 4 (omega arith) in
        let there : number file.order 4 (drop 12 (xs ++ ys)) ≡ number file.order 4 (drop 12 xs) = number-more file.order 4 12 (omega arith) in
        let front : take (header + n) (xs ++ ys) ≡ take (header + n) xs = take-append-le (header + n) xs ys within in
        ap₂ (λ (s f : ℕ). made (time_of (s * units + f) units) (nat_le (number file.order 4 (drop 12 (xs ++ ys))) n)
        (drop header (take (header + n) (xs ++ ys)))) seconds part
        ∙ ap₂ (λ (o : ℕ) (b : List ℕ). made (time_of (number file.order 4 xs * units + number file.order 4 (drop 4 xs)) units) (nat_le o n)
        (drop header b)) there front
      where
        made : Time → Bool → List ℕ → Captured
        made t w b = record { time = Some t; link = file.link; is_whole = w; at = record_header_len file.variant; bytes = b }

    pcap-stays : Stays (next_in_pcap file xs) (next_in_pcap file (xs ++ ys))
    unfolding next_in_pcap
    pcap-stays =
        let header = record_header_len file.variant in
        let n = number file.order 4 (drop 8 xs) in
        there-stays header (rest_of_pcap n xs) (rest_of_pcap (number file.order 4 (drop 8 (xs ++ ys))) (xs ++ ys)) _ refl (λ enough.
        let least = variant_len file.variant in
        let len : number file.order 4 (drop 8 (xs ++ ys)) ≡ n = number-more file.order 4 8 (omega arith) in
        subst (λ (k : ℕ). Stays (rest_of_pcap n xs) (rest_of_pcap k (xs ++ ys))) (sym len)
        (there-stays (header + n) _ _ _ refl (λ within.
        inr (ap (λ (p : Captured). Ok (record { used = header + n; packet = Ok (Some p) })) (packet-stays n within)))))

  header-with-stays : (magic : Option (Order × Variant)) → 24 ≤ length xs → header_with magic (xs ++ ys) ≡ header_with magic xs
  header-with-stays None enough = refl
  header-with-stays (Some magic) enough =
      ap (λ (n : ℕ). Ok (record { order = magic.0; variant = magic.1; link = link_of (n % 65536) })) (number-more magic.0 4 20 (omega arith))

  header-stays : Stays (pcap_header xs) (pcap_header (xs ++ ys))
  unfolding pcap_header
  header-stays =
      there-stays 24 (header_with (magic_at xs) xs) (header_with (magic_at (xs ++ ys)) (xs ++ ys)) _ refl (λ enough.
      let little : little_number 4 (xs ++ ys) ≡ little_number 4 xs = number-more Little 4 0 (omega arith) in
      let big : big_number 4 (xs ++ ys) ≡ big_number 4 xs = number-more Big 4 0 (omega arith) in
      let magic : magic_at (xs ++ ys) ≡ magic_at xs =
      ap₂ (λ (l b : ℕ). in_order Little (variant_of l) (in_order Big (variant_of b) None)) little big in
      inr (ap (λ (m : Option (Order × Variant)). header_with m (xs ++ ys)) magic ∙ header-with-stays (magic_at xs) enough))

  -- ---- pcapng

  order-stays : (order : Order) → 12 ≤ length xs → block_order order (xs ++ ys) ≡ block_order order xs
  order-stays order enough =
      let kind : number Little 4 (xs ++ ys) ≡ number Little 4 xs = number-more Little 4 0 (omega arith) in
      let little : number Little 4 (drop 8 (xs ++ ys)) ≡ number Little 4 (drop 8 xs) = number-more Little 4 8 (omega arith) in
      let big : number Big 4 (drop 8 (xs ++ ys)) ≡ number Big 4 (drop 8 xs) = number-more Big 4 8 (omega arith) in
      ap₂ (λ (l b : ℕ). given (number Little 4 (xs ++ ys)) l b) little big
      ∙ ap (λ (k : ℕ). given k (number Little 4 (drop 8 xs)) (number Big 4 (drop 8 xs))) kind
    where
      given : ℕ → ℕ → ℕ → Outcome Order
      given k l b = if k == 0x0a0d0d0a then (if l == 0x1a2b3c4d then Ok Little else if b == 0x1a2b3c4d then Ok Big else Err NoByteOrder) else Ok order

  module _ (order : Order) where
    abbrev end_of_block : ℕ → List ℕ → Outcome Block
    end_of_block l bytes =
        let end = number order 4 (drop (l - 4) bytes) in
        if end == l then Ok (block_of_length l order bytes) else Err (BlockEnd l end)

    abbrev rest_of_block : ℕ → List ℕ → Outcome Block
    rest_of_block l bytes =
        if nat_lt l 12 then Err (BlockLength l) else
        if nat_lt 0 (l % 4) then Err (BlockLength l) else
        if nat_lt (length bytes) l then Err (Short l (length bytes)) else end_of_block l bytes

    end-stays : (l : ℕ) → 12 ≤ l → l ≤ length xs → end_of_block l (xs ++ ys) ≡ end_of_block l xs
    end-stays l enough within =
        let end : number order 4 (drop (l - 4) (xs ++ ys)) ≡ number order 4 (drop (l - 4) xs) = number-more order 4 (l - 4) (omega arith) in
        let kind : number order 4 (xs ++ ys) ≡ number order 4 xs = number-more order 4 0 (omega arith) in
        let body : take (l - 4) (xs ++ ys) ≡ take (l - 4) xs = take-append-le (l - 4) xs ys (omega arith) in
        ap (λ (e : ℕ). if e == l then Ok (block_of_length l order (xs ++ ys)) else Err (BlockEnd l e)) end
        ∙ ap₂ (λ (k : ℕ) (b : List ℕ). if number order 4 (drop (l - 4) xs) == l then Ok (made k b) else Err
        (BlockEnd l (number order 4 (drop (l - 4) xs)))) kind body
      where
        made : ℕ → List ℕ → Block
        made k b = record { order = order; kind = k; body = drop 8 b }

    block-stays : 12 ≤ length xs → Stays (block_in order xs) (block_in order (xs ++ ys))
    unfolding block_in
    block-stays enough =
        let l = number order 4 (drop 4 xs) in
        let len : number order 4 (drop 4 (xs ++ ys)) ≡ l = number-more order 4 4 (omega arith) in
        let goal : Stays (rest_of_block l xs) (rest_of_block (number order 4 (drop 4 (xs ++ ys))) (xs ++ ys)) =
        subst (λ (k : ℕ). Stays (rest_of_block l xs) (rest_of_block k (xs ++ ys))) (sym len)
        (test-stays (nat_lt l 12) (BlockLength l) _ _ (λ long.
        test-stays (nat_lt 0 (l % 4)) (BlockLength l) _ _ (λ even.
        there-stays l (end_of_block l xs) (end_of_block l (xs ++ ys)) _ refl (λ within. inr (end-stays l (ltb-false l 12 long) within))))) in
        goal

  ordered-stays : 12 ≤ length xs → (found : Outcome Order) → Stays (then_read found (λ o. block_in o xs)) (then_read found (λ o. block_in o (xs ++ ys)))
  ordered-stays enough (Ok order) = block-stays order enough
  ordered-stays enough (Err e) = inr refl

  next-block-stays : (order : Order) → Stays (next_block order xs) (next_block order (xs ++ ys))
  unfolding next_block
  next-block-stays order =
      there-stays 12 (then_read (block_order order xs) (λ o. block_in o xs)) (then_read (block_order order (xs ++ ys)) (λ o. block_in o (xs ++ ys))) _ refl
      (λ enough.
      subst (λ (f : Outcome Order). Stays (then_read (block_order order xs) (λ o. block_in o xs)) (then_read f (λ o. block_in o (xs ++ ys))))
      (sym (order-stays order enough))
      (ordered-stays enough (block_order order xs)))

  section-stays : (s : Section) → Stays (next_in_section s xs) (next_in_section s (xs ++ ys))
  unfolding next_in_section
  section-stays s = then-stays (next_block s.order xs) (next_block s.order (xs ++ ys)) _ (next-block-stays s.order)

  -- ---- all of them

  pub next_piece-stays : (s : State) → Stays (next_piece s xs) (next_piece s (xs ++ ys))
  next_piece-stays (in_stream time) = then-stays (next_in_stream time xs) (next_in_stream time (xs ++ ys)) _ (stream-stays time)
  next_piece-stays before_header = then-stays (pcap_header xs) (pcap_header (xs ++ ys)) _ header-stays
  next_piece-stays (in_pcap file) = then-stays (next_in_pcap file xs) (next_in_pcap file (xs ++ ys)) _ (pcap-stays file)
  next_piece-stays (in_section s) = then-stays (next_in_section s xs) (next_in_section s (xs ++ ys)) _ (section-stays s)
