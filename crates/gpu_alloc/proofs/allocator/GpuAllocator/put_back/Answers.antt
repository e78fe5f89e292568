use Rattle.gpu_alloc.proofs.allocator.GpuAllocator.put_back.Goals as goal

pub returns-in-Dedicated-clause-freed : goal.returns-in-Dedicated-clause-freed
returns-in-Dedicated-clause-freed g c = c.put_back_object.ensures.freed

pub returns-in-Dedicated-clause-objects : goal.returns-in-Dedicated-clause-objects
returns-in-Dedicated-clause-objects g c = c.put_back_object.ensures.objects

pub returns-in-Dedicated-clause-agrees : goal.returns-in-Dedicated-clause-agrees
returns-in-Dedicated-clause-agrees g c = c.put_back_object.ensures.agrees

pub returns-in-BuddyChunk-clause-freed : goal.returns-in-BuddyChunk-clause-freed
returns-in-BuddyChunk-clause-freed g c = c.put_back_in_buddy.ensures.freed

pub returns-in-BuddyChunk-clause-objects : goal.returns-in-BuddyChunk-clause-objects
returns-in-BuddyChunk-clause-objects g c = c.put_back_in_buddy.ensures.objects

pub returns-in-BuddyChunk-clause-agrees : goal.returns-in-BuddyChunk-clause-agrees
returns-in-BuddyChunk-clause-agrees g c = c.put_back_in_buddy.ensures.agrees

pub returns-in-FreeListChunk-clause-freed : goal.returns-in-FreeListChunk-clause-freed
returns-in-FreeListChunk-clause-freed g c = c.put_back_in_list.ensures.freed

pub returns-in-FreeListChunk-clause-objects : goal.returns-in-FreeListChunk-clause-objects
returns-in-FreeListChunk-clause-objects g c = c.put_back_in_list.ensures.objects

pub returns-in-FreeListChunk-clause-agrees : goal.returns-in-FreeListChunk-clause-agrees
returns-in-FreeListChunk-clause-agrees g c = c.put_back_in_list.ensures.agrees

pub returns-in-FitChunk-clause-freed : goal.returns-in-FitChunk-clause-freed
returns-in-FitChunk-clause-freed g c = c.put_back_in_fit.ensures.freed

pub returns-in-FitChunk-clause-objects : goal.returns-in-FitChunk-clause-objects
returns-in-FitChunk-clause-objects g c = c.put_back_in_fit.ensures.objects

pub returns-in-FitChunk-clause-agrees : goal.returns-in-FitChunk-clause-agrees
returns-in-FitChunk-clause-agrees g c = c.put_back_in_fit.ensures.agrees
