-- Document 01, "Units and limits": the numbers that the rules hold to, one name each; and what a packet counts for, by document 02.
-- Assumes nothing.
use Rattle.std.specs.Prelude.{ℕ, ◌+◌, ◌^◌}

-- "packet: 1 to 9,000 bytes"
abbrev pub longest : ℕ
longest = 9000

-- "packets waiting in a leaf: at most 64"
abbrev pub room : ℕ
room = 64

-- "clock, and total bytes accepted: each at most 2^40"
abbrev pub last_tick : ℕ
last_tick = 2 ^ 40

abbrev pub most_bytes_accepted : ℕ
most_bytes_accepted = 2 ^ 40

-- "a 32-bit counter that comes round to zero"
abbrev pub wheel : ℕ
wheel = 2 ^ 32

-- "elapsed ticks are 2^31 or more"
abbrev pub too_far : ℕ
too_far = 2 ^ 31

-- Document 02, request 2, which amends 01: "8 bytes of preamble and start mark before a frame and a gap of 12 byte-times after it"
abbrev pub framing : ℕ
framing = 8 + 12

-- "So a packet of n bytes holds the link for n + 20 ticks. .. From now on every count of bytes sent, every deadline and virtual time and the limit behind
-- refusal 16 use n + 20": what a packet of length n counts for, in bytes and in ticks of the link. "Lengths in answers and refusal 12 stay with n."
unfoldable pub weigh : ℕ → ℕ
weigh n = n + framing
