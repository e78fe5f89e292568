-- What errors print, and which error becomes which.
use Rattle.std.specs.Prelude.{ℕ, List, codes}
use Rattle.gpu_alloc_types.specs.declared.types.DeviceMapError.{DeviceMapError}
use Rattle.gpu_alloc_types.specs.declared.types.DeviceMapError.TheVariants as DeviceMap
use Rattle.gpu_alloc_types.specs.declared.types.OutOfMemory.{OutOfMemory}
use Rattle.gpu_alloc_types.specs.declared.types.OutOfMemory.TheVariants as Memory
use Rattle.gpu_alloc_base.specs.declared.error.AllocationError.{AllocationError}
use Rattle.gpu_alloc_base.specs.declared.error.AllocationError.TheVariants as Allocation
use Rattle.gpu_alloc_base.specs.declared.error.MapError.{MapError}
use Rattle.gpu_alloc_base.specs.declared.error.MapError.TheVariants as Map

-- the text of a refused allocation
abbrev pub allocation_text : AllocationError → List ℕ
allocation_text Allocation.OutOfDeviceMemory = codes "Device memory exhausted"
allocation_text Allocation.OutOfHostMemory = codes "Host memory exhausted"
allocation_text Allocation.NoCompatibleMemoryTypes =
    codes "No compatible memory types from requested types support requested usage"
allocation_text Allocation.TooManyObjects = codes "Reached limit on allocated memory objects count"

-- the allocation error of the same name
abbrev pub like_memory : OutOfMemory → AllocationError
like_memory Memory.OutOfDeviceMemory = Allocation.OutOfDeviceMemory
like_memory Memory.OutOfHostMemory = Allocation.OutOfHostMemory

-- the text of a refused mapping
abbrev pub map_text : MapError → List ℕ
map_text Map.OutOfDeviceMemory = codes "Device memory exhausted"
map_text Map.OutOfHostMemory = codes "Host memory exhausted"
map_text Map.NonHostVisible = codes "Impossible to map non-host-visible memory"
map_text Map.MapFailed = codes "Failed to map memory object"
map_text Map.AlreadyMapped = codes "Block is already mapped"

-- the mapping error of the same name as a device's refusal to map
abbrev pub map_like_device : DeviceMapError → MapError
map_like_device DeviceMap.OutOfDeviceMemory = Map.OutOfDeviceMemory
map_like_device DeviceMap.OutOfHostMemory = Map.OutOfHostMemory
map_like_device DeviceMap.MapFailed = Map.MapFailed

-- the mapping error of the same name as a refusal of memory
abbrev pub map_like_memory : OutOfMemory → MapError
map_like_memory Memory.OutOfDeviceMemory = Map.OutOfDeviceMemory
map_like_memory Memory.OutOfHostMemory = Map.OutOfHostMemory
