-- SHA-1 of a whole message of bytes, as FIPS 180-4 defines it: no table, mask, mark or hasher comes into it.
use Rattle.std.specs.Prelude.{List, ◌∷◌, ◌++◌, ℕ, zero, suc, ◌-◌, ◌*◌, ◌/◌, ◌%◌, ◌^◌, length, take, drop, replicate}
use Rattle.octets.specs.Octets.{bytes32, bytes64}
use Rattle.step.specs.declared.Regs.{Regs}
use Rattle.block.specs.Compress.{compress_of}

-- section 5.1.1: the longest message, in bytes; its length in bits has 64 bits
abbrev pub most_bytes : ℕ
most_bytes = 2 ^ 61 - 1

-- section 5.1.1: the zero bytes after the byte 80. The standard asks for the fewest bits k with l + 1 + k = 448 modulo 512; for
-- l = 8 n bits these are 7 bits of the byte 80 and whole bytes z, the fewest with n + 1 + z = 56 modulo 64
abbrev pub zeros_for : ℕ → ℕ
zeros_for n = (119 - n % 64) % 64

-- section 5.1.1: the bit 1 and zero bits, then the message's length in bits
abbrev pub padding_for : ℕ → List ℕ
padding_for n = (0x80 ∷ replicate (zeros_for n) 0) ++ bytes64 (8 * n)

-- the padded message
abbrev pub padded : List ℕ → List ℕ
padded msg = msg ++ padding_for (length msg)

-- section 5.3.1: the first chaining words
abbrev pub initial : Regs
initial = record { a = 0x67452301; b = 0xEFCDAB89; c = 0x98BADCFE; d = 0x10325476; e = 0xC3D2E1F0 }

-- section 6.1.2: the first n blocks of 64 bytes compressed, one after the other
unfoldable pub hash_blocks : ℕ → Regs → List ℕ → Regs
hash_blocks zero h xs = h
hash_blocks (suc n) h xs = hash_blocks n (compress_of h (take 64 xs)) (drop 64 xs)

-- section 6.1.2: the five chaining words as 20 bytes
unfoldable pub digest_of : Regs → List ℕ
digest_of h = bytes32 h.a ++ bytes32 h.b ++ bytes32 h.c ++ bytes32 h.d ++ bytes32 h.e

-- the digest of a message
unfoldable pub sha1 : List ℕ → List ℕ
sha1 msg = digest_of (hash_blocks (length (padded msg) / 64) initial (padded msg))
