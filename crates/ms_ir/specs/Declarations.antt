-- The externals and the runtime functions as a module declares them.
use Rattle.std.specs.Prelude.{[], ◌∷◌, Some, None, codes}
use Rattle.ms_ir.specs.declared.syntax.Decl.{Decl}
use Rattle.ms_ir.specs.declared.syntax.Ty as ty
use Rattle.ms_ir.specs.Builders.{i1, i8, i32, i64, declares}

-- asks for a block of so many bytes
abbrev pub malloc : Decl
malloc = declares (codes "malloc") (Some ty.Ptr) (i64 ∷ [])

-- asks for a block of so many elements of so many bytes, all zero
abbrev pub calloc : Decl
calloc = declares (codes "calloc") (Some ty.Ptr) (i64 ∷ i64 ∷ [])

-- asks for another size of a block
abbrev pub realloc : Decl
realloc = declares (codes "realloc") (Some ty.Ptr) (ty.Ptr ∷ i64 ∷ [])

-- ends a block
abbrev pub free : Decl
free = declares (codes "free") None (ty.Ptr ∷ [])

-- copies: where to, from where, how many bytes
abbrev pub memcpy : Decl
memcpy = declares (codes "memcpy") (Some ty.Ptr) (ty.Ptr ∷ ty.Ptr ∷ i64 ∷ [])

-- the same
abbrev pub memmove : Decl
memmove = declares (codes "memmove") (Some ty.Ptr) (ty.Ptr ∷ ty.Ptr ∷ i64 ∷ [])

-- sets bytes: where, to which byte, how many
abbrev pub memset : Decl
memset = declares (codes "memset") (Some ty.Ptr) (ty.Ptr ∷ i32 ∷ i64 ∷ [])

-- compares two ranges of so many bytes
abbrev pub memcmp : Decl
memcmp = declares (codes "memcmp") (Some i32) (ty.Ptr ∷ ty.Ptr ∷ i64 ∷ [])

-- the length of a string
abbrev pub strlen : Decl
strlen = declares (codes "strlen") (Some i64) (ty.Ptr ∷ [])

-- prints a byte
abbrev pub putchar : Decl
putchar = declares (codes "putchar") (Some i32) (i32 ∷ [])

-- prints a string and a newline
abbrev pub puts : Decl
puts = declares (codes "puts") (Some i32) (ty.Ptr ∷ [])

-- takes a byte of the input
abbrev pub getchar : Decl
getchar = declares (codes "getchar") (Some i32) []

-- takes bytes: of which descriptor, where to, how many at most
abbrev pub read : Decl
read = declares (codes "read") (Some i64) (i32 ∷ ty.Ptr ∷ i64 ∷ [])

-- puts bytes out: to which descriptor, from where, how many
abbrev pub write : Decl
write = declares (codes "write") (Some i64) (i32 ∷ ty.Ptr ∷ i64 ∷ [])

-- ends the run with a number
abbrev pub exit : Decl
exit = declares (codes "exit") None (i32 ∷ [])

-- traps
abbrev pub abort : Decl
abort = declares (codes "abort") None []

-- copies as `memcpy`, without an answer; the last argument says that the access isn't volatile
abbrev pub llvm_memcpy : Decl
llvm_memcpy = declares (codes "llvm.memcpy.p0.p0.i64") None (ty.Ptr ∷ ty.Ptr ∷ i64 ∷ i1 ∷ [])

-- the same for `memmove`
abbrev pub llvm_memmove : Decl
llvm_memmove = declares (codes "llvm.memmove.p0.p0.i64") None (ty.Ptr ∷ ty.Ptr ∷ i64 ∷ i1 ∷ [])

-- the same for `memset`
abbrev pub llvm_memset : Decl
llvm_memset = declares (codes "llvm.memset.p0.i64") None (ty.Ptr ∷ i8 ∷ i64 ∷ i1 ∷ [])

-- makes so many bytes uninitialised
abbrev pub lifetime_start : Decl
lifetime_start = declares (codes "llvm.lifetime.start.p0") None (i64 ∷ ty.Ptr ∷ [])

-- does nothing
abbrev pub lifetime_end : Decl
lifetime_end = declares (codes "llvm.lifetime.end.p0") None (i64 ∷ ty.Ptr ∷ [])

-- prints by a format, which further arguments may follow
abbrev pub printf : Decl
printf = declares (codes "printf") (Some i32) (ty.Ptr ∷ [])

-- reports a mask: its width, origin, kind of use, part and site
abbrev pub msan_check : Decl
msan_check = declares (codes "__msan_check") None (i64 ∷ i32 ∷ i32 ∷ i32 ∷ i32 ∷ i32 ∷ [])

-- reports the first poisoned byte of a range: kind and site
abbrev pub msan_check_memory : Decl
msan_check_memory = declares (codes "__msan_check_memory") None (ty.Ptr ∷ i64 ∷ i32 ∷ i32 ∷ [])

-- reports the first poisoned byte of a string: the site
abbrev pub msan_check_string : Decl
msan_check_string = declares (codes "__msan_check_string") None (ty.Ptr ∷ i32 ∷ [])

-- counts a blind use of a mask
abbrev pub msan_blind : Decl
msan_blind = declares (codes "__msan_blind") None (i64 ∷ [])

-- poisons the bytes from one number to another, with an origin
abbrev pub msan_poison : Decl
msan_poison = declares (codes "__msan_poison") None (ty.Ptr ∷ i64 ∷ i64 ∷ i32 ∷ [])

-- clears a range
abbrev pub msan_unpoison : Decl
msan_unpoison = declares (codes "__msan_unpoison") None (ty.Ptr ∷ i64 ∷ [])

-- copies shadow and origins: where to, from where, how many bytes
abbrev pub msan_copy : Decl
msan_copy = declares (codes "__msan_copy") None (ty.Ptr ∷ ty.Ptr ∷ i64 ∷ [])

-- fills a range with a mask's low byte: its origin and site
abbrev pub msan_fill : Decl
msan_fill = declares (codes "__msan_fill") None (ty.Ptr ∷ i64 ∷ i64 ∷ i32 ∷ i32 ∷ [])

-- chains the origin of the bytes that a mask names: the origin and the site
abbrev pub msan_store_origin : Decl
msan_store_origin = declares (codes "__msan_store_origin") None (ty.Ptr ∷ i64 ∷ i32 ∷ i32 ∷ [])

-- the origin of the first byte that a mask names
abbrev pub msan_load_origin : Decl
msan_load_origin = declares (codes "__msan_load_origin") (Some i32) (ty.Ptr ∷ i64 ∷ [])

-- the size of a heap block
abbrev pub msan_size : Decl
msan_size = declares (codes "__msan_size") (Some i64) (ty.Ptr ∷ [])

-- reports the first poisoned byte of a string that a format asks for: the format, the argument's number, the string and
-- the site
abbrev pub msan_check_format : Decl
msan_check_format = declares (codes "__msan_check_format") None (ty.Ptr ∷ i32 ∷ ty.Ptr ∷ i32 ∷ [])

abbrev pub msan_thread_result : Decl
msan_thread_result = declares (codes "__msan_thread_result") None (ty.Ptr ∷ i64 ∷ i32 ∷ i32 ∷ [])
