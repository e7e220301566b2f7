-- The answer numbers of document 01, stated once for the definitions. In code they are the constants of
-- Answer.
use Rattle.std.specs.Prelude.{ℕ}

abbrev pub done : ℕ
done = 0

-- fewer than 40 bytes
abbrev pub short : ℕ
short = 1

-- version not 1
abbrev pub version : ℕ
version = 2

-- a count or the next serial outside its range
abbrev pub count : ℕ
count = 3

-- an offset or the total not as laid out, or total not the slice's length
abbrev pub layout : ℕ
layout = 4

-- a file field outside its range, or spare not zero
abbrev pub field : ℕ
field = 5

-- a record not above the one before it
abbrev pub not_above : ℕ
not_above = 6

-- start after end
abbrev pub window : ℕ
window = 7

-- the board read, or the board after the call, is red
abbrev pub red : ℕ
red = 8

-- lent list of fewer than 128 serials
abbrev pub list : ℕ
list = 9

-- clock below the board's clock
abbrev pub clock : ℕ
clock = 10

-- a request field outside its range, or a use's second not 0
abbrev pub request : ℕ
request = 11

-- no open duty with this serial
abbrev pub not_open : ℕ
not_open = 12

-- clock outside the window
abbrev pub outside : ℕ
outside = 13

-- an open duty is wholly before this one
abbrev pub held_back : ℕ
held_back = 14

-- not permitted now
abbrev pub not_permitted : ℕ
not_permitted = 15

-- 128 duties already open
abbrev pub full : ℕ
full = 16

-- next serial is 4,294,967,295
abbrev pub spent : ℕ
spent = 17

-- total above 6,952
abbrev pub long : ℕ
long = 18

-- the board value given breaks a file rule
abbrev pub broken : ℕ
broken = 19

-- lent buffer shorter than the file
abbrev pub room : ℕ
room = 20

-- window over: its end is below the call's clock
abbrev pub over : ℕ
over = 21

-- more than 8 duties, for a plain walk
abbrev pub many : ℕ
many = 22
